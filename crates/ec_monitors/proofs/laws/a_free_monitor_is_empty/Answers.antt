use Rattle.ec_monitors.proofs.Keeping.{free_empty}
use Rattle.ec_monitors.proofs.laws.a_free_monitor_is_empty.Goals as goal

pub returns : goal.returns
returns c = free_empty
