-- Homes choose words alone.
use Rattle.std.proofs.Common.{refl}
use Rattle.ec_activations.proofs.laws.values_are_of_no_kind.Goals as goal

pub returns : goal.returns
returns c = λ p homes homes' process depth a. refl
