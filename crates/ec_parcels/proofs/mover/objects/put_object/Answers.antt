-- The object that is made is the one of the part, with the monitor of the record.
use Rattle.std.proofs.Common.{false, List, Option, Some, subst, sym}
use Rattle.std.specs.Prelude.{OnOk}
use Rattle.ec_monitors.specs.declared.record.MonitorRec.{MonitorRec}
use Rattle.ec_parcels.proofs.mover.objects.put_object.Goals as goal
use Rattle.ec_parcels.specs.Objects.{object_of}
use Rattle.ec_world.specs.declared.key.Key.TheVariants.{Object}
use Rattle.ec_objects.specs.Values.{TextsFit}
use Rattle.ec_stores.specs.Node.{store_of}
use Rattle.ec_things.specs.Texts.{GetsTexts}
use Rattle.ec_things.specs.Things.{Puts, object_thing}
use Rattle.ec_world.specs.Group.{Has}
use Rattle.ec_world.specs.declared.value.Value.{Value}
use Rattle.ec_world.specs.declared.value.Value.TheVariants.{Str}

pub create_object-requires-clause-texts : goal.create_object-requires-clause-texts
create_object-requires-clause-texts c =
    subst (λ (vs : List Value). TextsFit (store_of c.args.node.now) vs) (sym c.as_slice.ensures) c.requires.texts

pub returns-clause-puts : goal.returns-clause-puts
returns-clause-puts c =
    let s = store_of c.args.node.now in
    let s' = store_of c.create_object.new.node in
    let number = c.args.part.now.number in
    subst (λ (m : Option MonitorRec).
    OnOk c.create_object.result (Puts s s' (Object number) (Some (object_thing number (object_of c.args.class c.args.part.now m)))))
    c.in_ok-monitor.ensures
    (subst (λ (vs : List Value).
    OnOk c.create_object.result (Puts s s' (Object number) (Some (object_thing number
    (record { class = c.args.class; fields = vs; fixed = false; monitor = c.in_ok-monitor.monitor })))))
    c.as_slice.ensures c.create_object.ensures.puts)

pub returns-clause-gets : goal.returns-clause-gets
returns-clause-gets c =
    subst (λ (vs : List Value).
    OnOk c.create_object.result
    (GetsTexts (λ text. Has vs (Str text)) (store_of c.args.node.now) (store_of c.create_object.new.node)))
    c.as_slice.ensures c.create_object.ensures.gets
