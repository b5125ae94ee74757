-- The object is put at its node.
use Rattle.std.proofs.Common.{[], ap, refl}
use Rattle.std.specs.Prelude.{None, option_map}
use Rattle.ec_cluster.proofs.Answered.{on_ok_two}
use Rattle.ec_acts.proofs.MakingLemmas.{made_set}
use Rattle.ec_acts.proofs.objects.make_at.Goals as goal
use Rattle.ec_stores.specs.Node.{store_of}

pub create_object-requires-clause-new : goal.create_object-requires-clause-new
create_object-requires-clause-new c =
    c.requires.new (store_of c.at_mut.result.now) (ap (option_map store_of) c.at_mut.ensures.value)

pub create_object-requires-clause-blocks : goal.create_object-requires-clause-blocks
create_object-requires-clause-blocks c =
    c.requires.blocks (store_of c.at_mut.result.now) (ap (option_map store_of) c.at_mut.ensures.value)

pub returns : goal.returns
returns c = on_ok_two c.create_object.result
    (λ puts gets. made_set c.args.cluster.now c.note_made.new.self c.args.node c.args.oid c.at_mut.result.now c.create_object.new.node
    (record { class = c.args.class; fields = []; fixed = c.args.fixed; monitor = None }) c.at_mut.ensures.value c.requires.next
    c.in_ok-note_made.ensures.ok puts gets refl)
    c.create_object.ensures.puts c.create_object.ensures.gets
