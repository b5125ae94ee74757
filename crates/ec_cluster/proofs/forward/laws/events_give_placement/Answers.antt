use Rattle.ec_cluster.proofs.Noting.{give_on}
use Rattle.ec_cluster.proofs.forward.laws.events_give_placement.Goals as goal

pub returns : goal.returns
returns c = give_on
