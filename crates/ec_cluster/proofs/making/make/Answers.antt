-- The object is put at the node of its maker.
use Rattle.std.proofs.Common.{ap}
use Rattle.std.specs.Prelude.{false, option_map}
use Rattle.ec_cluster.proofs.Answered.{on_ok_two}
use Rattle.ec_cluster.proofs.Creating.{object_made}
use Rattle.ec_cluster.proofs.Putting.{node_there}
use Rattle.ec_cluster.proofs.making.make.Goals as goal
use Rattle.ec_stores.specs.Node.{store_of}

pub at_mut-requires : goal.at_mut-requires
at_mut-requires c = node_there c.args.cluster.now c.args.maker c.node_of-k.result c.requires.maker_is c.node_of-k.ensures

pub create_object-requires-clause-texts : goal.create_object-requires-clause-texts
create_object-requires-clause-texts c =
    c.requires.texts c.node_of-k.result (store_of c.at_mut.result.now) c.node_of-k.ensures (ap (option_map store_of) c.at_mut.ensures.value)

pub returns : goal.returns
returns c = on_ok_two c.create_object.result
    (λ puts gets. object_made c.args.cluster.now c.note_made.new.self c.node_of-k.result c.args.oid c.at_mut.result.now
    c.create_object.new.node
    (record { class = c.args.class; fields = c.args.fields.now; fixed = false; monitor = c.args.monitor }) c.at_mut.ensures.value
    c.requires.next c.in_ok-note_made.ensures.ok puts c.args.maker c.node_of-k.ensures gets)
    c.create_object.ensures.puts c.create_object.ensures.gets
