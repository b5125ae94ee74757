use Rattle.ec_cluster.proofs.Numbering.{gives_none}
use Rattle.ec_cluster.proofs.forward.whereabouts.Whereabouts.new.Goals as goal

pub returns : goal.returns
returns c = gives_none c.new.result c.new.ensures
