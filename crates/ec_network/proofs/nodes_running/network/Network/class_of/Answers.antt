-- The class that is seen is the one in each world.
use Rattle.ec_network.proofs.Networks.{for_standing}
use Rattle.ec_network.proofs.Reading.{class_read}
use Rattle.ec_network.proofs.nodes_running.network.Network.class_of.Goals as goal
use Rattle.ec_cluster.specs.Decoded.{seen_common}

pub returns : goal.returns
returns c = for_standing _ c.args.self.now c.standing.result.now c.standing.ensures.is
    (λ d w s. class_read (seen_common c.seen.result) w c.args.oid (c.seen.ensures d w s) c.class_of.result c.class_of.ensures)
