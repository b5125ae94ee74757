use Rattle.ec_network.proofs.Places.{fixed_stay}
use Rattle.ec_network.proofs.laws.fixed_objects_stay.Goals as goal

pub returns : goal.returns
returns start = fixed_stay
