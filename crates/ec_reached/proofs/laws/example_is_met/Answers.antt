use Rattle.ec_reached.proofs.Examples.{example_met}
use Rattle.ec_reached.proofs.laws.example_is_met.Goals as goal

pub returns : goal.returns
returns start = example_met
