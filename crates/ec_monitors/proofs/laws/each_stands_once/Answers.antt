use Rattle.ec_monitors.proofs.Keeping.{each_once}
use Rattle.ec_monitors.proofs.laws.each_stands_once.Goals as goal

pub returns : goal.returns
returns c = each_once
