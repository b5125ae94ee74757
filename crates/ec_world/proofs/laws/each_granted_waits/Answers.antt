use Rattle.ec_world.proofs.Worlds.{granted_waits}
use Rattle.ec_world.proofs.laws.each_granted_waits.Goals as goal

pub returns : goal.returns
returns g c = granted_waits g.A.Activation.meaning
