use Rattle.std.proofs.Common.{IfOk, subst}
use Rattle.ec_stores.specs.Changes.{HasOn}
use Rattle.ec_stores.specs.Inside.{data_of}
use Rattle.ec_stores.specs.Node.{NodeData, store_of}
use Rattle.ec_stores.proofs.Standing.{has_on_if}
use Rattle.ec_stores.proofs.node.NodeStore.activations_on.Goals as goal

pub returns : goal.returns
returns c =
    subst (λ (n : NodeData). IfOk c.on.result (λ found. HasOn (store_of n) c.args.oid found.items)) c.self.view_is
    (has_on_if (data_of c.self.inside) c.args.oid c.on.result c.on.ensures)
