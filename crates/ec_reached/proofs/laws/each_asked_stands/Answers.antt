use Rattle.ec_reached.proofs.Asked.{asked_stand}
use Rattle.ec_reached.proofs.laws.each_asked_stands.Goals as goal

pub returns : goal.returns
returns g c = asked_stand g.A.Activation.meaning
