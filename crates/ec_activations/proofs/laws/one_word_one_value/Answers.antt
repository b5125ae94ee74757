-- Value by value.
use Rattle.ec_activations.proofs.ValueByValue.{one_word_one_value as law}
use Rattle.ec_activations.proofs.laws.one_word_one_value.Goals as goal

pub returns : goal.returns
returns c = law
