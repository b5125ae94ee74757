use Rattle.ec_moving.proofs.Worlds.{others_stay}
use Rattle.ec_moving.proofs.laws.others_stay.Goals as goal

pub returns : goal.returns
returns g c = others_stay g.A.Activation.meaning
