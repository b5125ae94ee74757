use Rattle.ec_world.proofs.Queues.{statuses_tell}
use Rattle.ec_world.proofs.laws.each_status_tells.Goals as goal

pub returns : goal.returns
returns g c = statuses_tell
