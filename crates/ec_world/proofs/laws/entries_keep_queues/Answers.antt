use Rattle.ec_world.proofs.Worlds.{entries_keep}
use Rattle.ec_world.proofs.laws.entries_keep_queues.Goals as goal

pub returns : goal.returns
returns g c = entries_keep g.A.Activation.meaning
