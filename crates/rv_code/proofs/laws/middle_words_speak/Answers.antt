-- The words do what the steps do, where questions lead as far as a jump reaches.
use Rattle.rv_code.proofs.Speaking.{middle_speaks}
use Rattle.rv_code.proofs.laws.middle_words_speak.Goals as goal

pub returns : goal.returns
returns start = middle_speaks
