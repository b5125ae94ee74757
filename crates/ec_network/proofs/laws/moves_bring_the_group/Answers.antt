use Rattle.ec_network.proofs.Places.{moves_bring}
use Rattle.ec_network.proofs.laws.moves_bring_the_group.Goals as goal

pub returns : goal.returns
returns start = moves_bring
