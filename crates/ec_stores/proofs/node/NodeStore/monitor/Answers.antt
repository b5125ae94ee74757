use Rattle.std.proofs.Common.{subst}
use Rattle.std.specs.Prelude.{IfSome}
use Rattle.ec_stores.specs.Changes.{MonitorIs}
use Rattle.ec_stores.specs.Inside.{data_of}
use Rattle.ec_stores.specs.Node.{NodeData, object_in, owned_object, store_of}
use Rattle.ec_stores.proofs.Changing.{monitor_found}
use Rattle.ec_stores.proofs.Comings.{found_is}
use Rattle.ec_stores.proofs.node.NodeStore.monitor.Goals as goal

pub returns-in-Some-clause-some : goal.returns-in-Some-clause-some
returns-in-Some-clause-some c =
    let node = data_of c.self.inside in
    let row = c.in-Some.row.now in
    subst (λ (n : NodeData). IfSome c.as_ref.result (λ m. MonitorIs (store_of n) c.args.oid m.now)) c.self.view_is
    (monitor_found (store_of node) c.args.oid row c.as_ref.result c.as_ref.ensures.value
    (found_is (owned_object c.args.oid) (object_in node.objects c.args.oid) row c.in-Some.ensures.value))
