use Rattle.ec_world.proofs.Queues.{queues_tell}
use Rattle.ec_world.proofs.laws.each_queue_tells.Goals as goal

pub returns : goal.returns
returns g c = queues_tell
