use Rattle.ec_reached.proofs.Order.{order_kept}
use Rattle.ec_reached.proofs.laws.order_is_kept.Goals as goal

pub returns : goal.returns
returns g c = order_kept g.A.Activation.meaning
