use Rattle.ec_network.proofs.Places.{turns_bring}
use Rattle.ec_network.proofs.laws.turns_bring_the_group.Goals as goal

pub returns : goal.returns
returns start = turns_bring
