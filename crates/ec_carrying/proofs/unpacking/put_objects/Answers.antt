-- The objects come one after another.
use Rattle.std.proofs.Common.{◌≡◌, ◌+◌, ◌*◌, ◌≤◌, [], drop, length, Option, Some, sym, ap, ◌∙◌, subst, arith}
use Rattle.std.specs.Prelude.{option_copied}
use Rattle.std.proofs.lemmas.Option.{same_Some}
use Rattle.ec_carrying.proofs.Putting.{all_objects_came, nothing_came, object_behind, object_has_blocks, object_is_new, object_texts_fit}
use Rattle.ec_carrying.proofs.Putting.{room_for_object}
use Rattle.ec_carrying.proofs.unpacking.put_objects.Goals as goal
use Rattle.ec_carrying.specs.Landing.{monitor_in}
use Rattle.ec_monitors.specs.declared.record.MonitorRec.{MonitorRec}
use Rattle.ec_parcels.specs.Objects.{object_of}
use Rattle.ec_stores.specs.Node.{store_of}
use Rattle.ec_things.specs.Things.{Puts, object_thing}
use Rattle.ec_world.specs.Things.{class_blocks}
use Rattle.ec_world.specs.declared.class.ClassNo.{ClassNo}
use Rattle.ec_world.specs.declared.key.Key.TheVariants.{Object}

pub loop-i-init : goal.loop-i-init
loop-i-init c = λ tables.
    nothing_came c.args.numbers.now tables c.args.contents.now.monitors (store_of c.args.node.now) c.requires.room.tidy

pub class_there-class-requires : goal.class_there-class-requires
class_there-class-requires c =
    let classed = c.requires.classed c.at-object.result.now (record { at = c.loop-i.i; is = c.at-object.ensures }) in
    (classed.class, classed.is)

pub put_object-requires-clause-new : goal.put_object-requires-clause-new
put_object-requires-clause-new c =
    let x = c.args.contents.now in
    let part = c.at-object.result.now in
    object_is_new c.args.numbers.now x.monitors part (drop (c.loop-i.i + 1) x.objects) x.activations (store_of c.loop-i.node)
    (room_for_object c.args.numbers.now [] (store_of c.args.node.now) (store_of c.loop-i.node) x c.requires.room c.loop-i.i part
    c.at-object.ensures (c.loop-i.invariant []))

pub put_object-requires-clause-blocks : goal.put_object-requires-clause-blocks
put_object-requires-clause-blocks c =
    let x = c.args.contents.now in
    let part = c.at-object.result.now in
    object_has_blocks c.args.numbers.now x.monitors part (drop (c.loop-i.i + 1) x.objects) x.activations (store_of c.loop-i.node)
    (room_for_object c.args.numbers.now [] (store_of c.args.node.now) (store_of c.loop-i.node) x c.requires.room c.loop-i.i part
    c.at-object.ensures (c.loop-i.invariant []))
    c.class_there-class.result c.class_there-class.ensures

pub put_object-requires-clause-few : goal.put_object-requires-clause-few
put_object-requires-clause-few c =
    let part = c.at-object.result.now in
    let classed = c.requires.classed part (record { at = c.loop-i.i; is = c.at-object.ensures }) in
    let same : classed.class ≡ c.class_there-class.result =
    same_Some classed.class c.class_there-class.result (sym classed.is ∙ c.class_there-class.ensures) in
    subst (λ (class : ClassNo). length part.values ≤ 128 * class_blocks class (length part.values)) same classed.few

pub put_object-requires-clause-small : goal.put_object-requires-clause-small
put_object-requires-clause-small c =
    (c.requires.classed c.at-object.result.now (record { at = c.loop-i.i; is = c.at-object.ensures })).small

pub put_object-requires-clause-texts : goal.put_object-requires-clause-texts
put_object-requires-clause-texts c =
    let x = c.args.contents.now in
    let part = c.at-object.result.now in
    object_texts_fit c.args.numbers.now x.monitors part (drop (c.loop-i.i + 1) x.objects) x.activations (store_of c.loop-i.node)
    (room_for_object c.args.numbers.now [] (store_of c.args.node.now) (store_of c.loop-i.node) x c.requires.room c.loop-i.i part
    c.at-object.ensures (c.loop-i.invariant []))

pub loop-i-preserved : goal.loop-i-preserved
loop-i-preserved c = λ tables.
    let x = c.args.contents.now in
    let part = c.at-object.result.now in
    let class = c.class_there-class.result in
    let now = store_of c.loop-i.node in
    let next = store_of c.put_object.new.node in
    let told : option_copied c.monitor_of-monitor.result ≡ monitor_in x.monitors part.number =
    c.monitor_of-monitor.ensures ∙ ap (λ ms. monitor_in ms part.number) c.as_slice.ensures in
    object_behind c.args.numbers.now tables (store_of c.args.node.now) now x c.requires.room c.loop-i.i part c.at-object.ensures
    (c.loop-i.invariant tables) class c.class_there-class.ensures next
    (subst (λ (m : Option MonitorRec). Puts now next (Object part.number) (Some (object_thing part.number (object_of class part m)))) told
    c.in_ok-put_object.ensures.puts)
    c.in_ok-put_object.ensures.gets

pub returns : goal.returns
returns c = λ tables.
    all_objects_came c.args.numbers.now tables (store_of c.args.node.now) (store_of c.loop-i.node) c.args.contents.now c.loop-i.i
    (omega (arith, c.len-i-end.ensures)) (c.loop-i.invariant tables)
