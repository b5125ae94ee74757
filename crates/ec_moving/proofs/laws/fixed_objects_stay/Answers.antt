use Rattle.ec_moving.proofs.Worlds.{fixed_objects_stay}
use Rattle.ec_moving.proofs.laws.fixed_objects_stay.Goals as goal

pub returns : goal.returns
returns g c = fixed_objects_stay g.A.Activation.meaning
