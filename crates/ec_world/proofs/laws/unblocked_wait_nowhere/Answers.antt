use Rattle.ec_world.proofs.Queues.{unblocked_nowhere}
use Rattle.ec_world.proofs.laws.unblocked_wait_nowhere.Goals as goal

pub returns : goal.returns
returns g c = unblocked_nowhere
