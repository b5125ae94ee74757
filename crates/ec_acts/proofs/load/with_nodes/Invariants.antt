use Rattle.std.proofs.Common.{length, replicate}
use Rattle.ec_cluster.specs.Located.{nodes_made}
use Rattle.ec_acts.proofs.load.with_nodes.Given as goal
use Rattle.ec_acts.specs.Loading.{IsSet}
use Rattle.ec_acts.specs.Worlds.{with_objects}
use Rattle.ec_world.specs.Run.{node_object}

abbrev pub invariant-loop-k : goal.invariant-loop-k
invariant-loop-k l =
    IsSet l.fn.parts l.fn.images l.specs (with_objects (length l.specs) l.fn.parts (replicate l.k node_object)) (nodes_made l.k) l.cluster
