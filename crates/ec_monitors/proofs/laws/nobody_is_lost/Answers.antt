use Rattle.ec_monitors.proofs.Counting.{nobody_lost}
use Rattle.ec_monitors.proofs.laws.nobody_is_lost.Goals as goal

pub returns : goal.returns
returns c = nobody_lost
