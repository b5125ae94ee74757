use Rattle.ec_moving.proofs.Worlds.{nodes_stay}
use Rattle.ec_moving.proofs.laws.nodes_stay.Goals as goal

pub returns : goal.returns
returns g c = nodes_stay g.A.Activation.meaning
