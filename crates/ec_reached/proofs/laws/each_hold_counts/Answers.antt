use Rattle.ec_reached.proofs.Order.{hold_counts}
use Rattle.ec_reached.proofs.laws.each_hold_counts.Goals as goal

pub returns : goal.returns
returns g c = hold_counts g.A.Activation.meaning
