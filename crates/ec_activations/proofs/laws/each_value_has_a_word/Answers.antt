-- Value by value.
use Rattle.ec_activations.proofs.ValueByValue.{each_value_has_a_word as law}
use Rattle.ec_activations.proofs.laws.each_value_has_a_word.Goals as goal

pub returns : goal.returns
returns c = law
