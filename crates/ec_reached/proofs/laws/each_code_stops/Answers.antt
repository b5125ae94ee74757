use Rattle.ec_reached.proofs.CodeSteps.{code_stops}
use Rattle.ec_reached.proofs.laws.each_code_stops.Goals as goal

pub returns : goal.returns
returns start = code_stops
