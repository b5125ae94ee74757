use Rattle.ec_reached.proofs.LoweredFits.{lowered_stops}
use Rattle.ec_reached.proofs.laws.lowered_stops.Goals as goal

pub returns : goal.returns
returns start = lowered_stops
