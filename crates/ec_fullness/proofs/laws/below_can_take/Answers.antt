use Rattle.ec_fullness.proofs.Finishing.{below_takes}
use Rattle.ec_fullness.proofs.laws.below_can_take.Goals as goal

pub returns : goal.returns
returns c = below_takes
