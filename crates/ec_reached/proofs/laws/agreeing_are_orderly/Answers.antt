use Rattle.ec_reached.proofs.Agreements.{agreeing_orderly}
use Rattle.ec_reached.proofs.laws.agreeing_are_orderly.Goals as goal

pub returns : goal.returns
returns g c = agreeing_orderly g.A.Activation.meaning g.B.Activation.meaning
