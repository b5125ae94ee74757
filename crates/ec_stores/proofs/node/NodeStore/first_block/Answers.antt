use Rattle.std.proofs.Common.{arith}
use Rattle.ec_world.specs.declared.key.Key.TheVariants.{Object as OfObject}
use Rattle.ec_stores.specs.Inside.{data_of}
use Rattle.ec_stores.specs.Node.{object_in, owned_object}
use Rattle.ec_stores.proofs.Comings.{found_is}
use Rattle.ec_stores.proofs.node.NodeStore.first_block.Goals as goal

pub returns-clause-small : goal.returns-clause-small
returns-clause-small c =
    let node = data_of c.self.inside in
    let row = c.in-Some.row.now in
    let found = found_is (owned_object c.args.oid) (object_in node.objects c.args.oid) row c.in-Some.ensures.value in
    let within = c.self.invariant.owners.within (OfObject c.args.oid) (owned_object c.args.oid row) c.at.result.now found
    (record { at = 0; is = c.at.ensures }) in
    let few = c.self.invariant.whole.few_blocks in
    omega arith
