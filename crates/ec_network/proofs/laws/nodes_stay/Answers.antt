use Rattle.ec_network.proofs.Places.{nodes_stay}
use Rattle.ec_network.proofs.laws.nodes_stay.Goals as goal

pub returns : goal.returns
returns start = nodes_stay
