use Rattle.ec_network.proofs.Places.{others_stay_in_turns}
use Rattle.ec_network.proofs.laws.others_stay_in_turns.Goals as goal

pub returns : goal.returns
returns start = others_stay_in_turns
