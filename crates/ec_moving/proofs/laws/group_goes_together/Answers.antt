use Rattle.ec_moving.proofs.Lists.{goes_together}
use Rattle.ec_moving.proofs.laws.group_goes_together.Goals as goal

pub returns : goal.returns
returns start = goes_together
