use Rattle.ec_cluster.proofs.Noting.{give}
use Rattle.ec_cluster.proofs.forward.laws.events_give_places.Goals as goal

pub returns : goal.returns
returns c = give
