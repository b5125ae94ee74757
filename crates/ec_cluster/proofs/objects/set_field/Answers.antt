-- One object changes at its node, which may get a text.
use Rattle.std.proofs.Common.{◌≡◌, ℕ, List, ap}
use Rattle.std.specs.Prelude.{option_map}
use Rattle.ec_cluster.proofs.Answered.{on_ok}
use Rattle.ec_cluster.proofs.Changing.{field_step, has_object, object_changes}
use Rattle.ec_cluster.proofs.objects.set_field.Goals as goal
use Rattle.ec_stores.specs.Node.{store_of}
use Rattle.ec_world.specs.Outcomes.{with_element}
use Rattle.ec_world.specs.declared.value.Value.TheVariants.{Str}

pub set_field-requires-clause-text : goal.set_field-requires-clause-text
set_field-requires-clause-text c =
    c.requires.room c.node_of-k.result (store_of c.at_mut.result.now) c.node_of-k.ensures (ap (option_map store_of) c.at_mut.ensures.value)

pub returns-clause-changes : goal.returns-clause-changes
returns-clause-changes c = on_ok c.set_field.result
    (λ gets. object_changes c.args.cluster.now c.args.oid c.node_of-k.result c.at_mut.result.now c.set_field.new.node
    (λ (text : List ℕ). c.args.value.now ≡ Str text) c.node_of-k.ensures c.at_mut.ensures.value gets)
    c.set_field.ensures.gets

pub returns-clause-shows : goal.returns-clause-shows
returns-clause-shows c = on_ok c.set_field.result
    (λ puts w shows. field_step c.args.cluster.now c.args.oid c.node_of-k.result c.at_mut.result.now c.set_field.new.node c.args.field
    c.node_of-k.ensures c.at_mut.ensures.value c.requires.field (with_element c.args.field c.args.value.now) puts (has_object c.args.cluster.now c.args.oid c.args.field c.requires.field) w shows)
    c.set_field.ensures.puts
