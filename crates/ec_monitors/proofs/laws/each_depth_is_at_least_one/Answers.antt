use Rattle.ec_monitors.proofs.Depths.{each_deep}
use Rattle.ec_monitors.proofs.laws.each_depth_is_at_least_one.Goals as goal

pub returns : goal.returns
returns c = each_deep
