use Rattle.ec_world.proofs.Worlds.{runs_keep}
use Rattle.ec_world.proofs.laws.each_run_keeps_queues.Goals as goal

pub returns : goal.returns
returns g c = runs_keep g.A.Activation.meaning
