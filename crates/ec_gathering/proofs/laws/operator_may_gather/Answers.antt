-- The group that the operator moves.
use Rattle.ec_gathering.proofs.Moves.{operator_may}
use Rattle.ec_gathering.proofs.laws.operator_may_gather.Goals as goal

pub returns : goal.returns
returns c = operator_may
