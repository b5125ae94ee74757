use Rattle.std.proofs.Common.{refl, subst}
use Rattle.ec_world.specs.declared.key.Key.TheVariants.{Object as OfObject}
use Rattle.ec_stores.specs.Changes.{IsObject}
use Rattle.ec_stores.specs.Inside.{data_of}
use Rattle.ec_stores.specs.Node.{NodeData, object_in, owned_object, store_of}
use Rattle.ec_stores.specs.declared.rows.Object.{Object}
use Rattle.ec_stores.proofs.Comings.{found_is}
use Rattle.ec_stores.proofs.node.NodeStore.object.Goals as goal

pub returns-in-Some-clause-some : goal.returns-in-Some-clause-some
returns-in-Some-clause-some c =
    let node = data_of c.self.inside in
    let row = c.in-Some.row.now in
    let found = found_is (owned_object c.args.oid) (object_in node.objects c.args.oid) row c.in-Some.ensures.value in
    let o : Object = record { class = row.class; size = row.size; fixed = row.fixed } in
    subst (λ (n : NodeData). IsObject (store_of n) c.args.oid o) c.self.view_is (record {
      row = owned_object c.args.oid row;
      there = found;
      class = refl;
      size = refl;
      fixed = refl;
      blocks = c.self.invariant.owners.counted (OfObject c.args.oid) (owned_object c.args.oid row) found;
    })
