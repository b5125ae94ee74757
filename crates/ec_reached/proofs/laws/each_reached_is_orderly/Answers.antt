use Rattle.ec_reached.proofs.Order.{reached_orderly}
use Rattle.ec_reached.proofs.laws.each_reached_is_orderly.Goals as goal

pub returns : goal.returns
returns g c = reached_orderly g.A.Activation.meaning
