use Rattle.ec_moving.proofs.Worlds.{action_brings}
use Rattle.ec_moving.proofs.laws.action_brings_the_group.Goals as goal

pub returns : goal.returns
returns g c = action_brings g.A.Activation.meaning
