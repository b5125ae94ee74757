use Rattle.ec_reached.proofs.Order.{blocked_rests}
use Rattle.ec_reached.proofs.laws.each_blocked_rests.Goals as goal

pub returns : goal.returns
returns g c = blocked_rests g.A.Activation.meaning
