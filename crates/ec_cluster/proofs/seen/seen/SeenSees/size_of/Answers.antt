-- A vector has as many elements as its row says.
use Rattle.std.proofs.Common.{sym}
use Rattle.ec_cluster.proofs.Elements.{vector_size}
use Rattle.ec_cluster.proofs.seen.seen.SeenSees.size_of.Goals as goal
use Rattle.ec_stores.specs.Node.{store_of}

pub returns-in-Vector : goal.returns-in-Vector
returns-in-Vector c =
    sym (vector_size c.args.self.now c.args.oid (store_of c.in-Some._node.now) c.in-Some.object c.in-Some.ensures.some c.in-Vector.field-0
    c.in-Vector.is)
