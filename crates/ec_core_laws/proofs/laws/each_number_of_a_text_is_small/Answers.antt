-- The numbers in a program of a text are small.
use Rattle.ec_core_laws.proofs.TextPrograms.{text_has_small_numbers}
use Rattle.ec_core_laws.proofs.laws.each_number_of_a_text_is_small.Goals as goal

pub returns : goal.returns
returns start text tokens program has tree = text_has_small_numbers text tokens program has tree
