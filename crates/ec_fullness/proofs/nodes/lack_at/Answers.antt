-- The node is that of the object.
use Rattle.ec_fullness.proofs.Telling.{told_ok}
use Rattle.ec_fullness.proofs.nodes.lack_at.Goals as goal

pub returns : goal.returns
returns c =
    told_ok c.args.cluster.now c.args.oid c.node_of-k.result c.at.result.now c.node_of-k.ensures c.at.ensures c.args.blocks
    c.args.values.now
    c.lack_of.result c.lack_of.ensures.some c.lack_of.ensures.none
