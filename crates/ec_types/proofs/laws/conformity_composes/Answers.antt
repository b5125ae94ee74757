-- Conformity composes.
use Rattle.ec_types.proofs.Composes.{composes}
use Rattle.ec_types.proofs.laws.conformity_composes.Goals as goal

pub returns : goal.returns
returns start types few known s t u a b c h k = composes types few known s t u a b c h k
