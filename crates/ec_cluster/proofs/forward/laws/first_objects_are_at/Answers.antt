use Rattle.ec_cluster.proofs.Noting.{first_are_at}
use Rattle.ec_cluster.proofs.forward.laws.first_objects_are_at.Goals as goal

pub returns : goal.returns
returns c = first_are_at
