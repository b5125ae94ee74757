-- What goes of the monitor of one member more.
use Rattle.std.proofs.Common.{◌≡◌, ◌∷◌, [], Option, arith, sym, ap, ◌∙◌, get_or}
use Rattle.std.specs.Prelude.{option_to_list}
use Rattle.ec_parcels.specs.Objects.{monitor_part_of}
use Rattle.ec_packing.proofs.Joining.{all_joined, more_joined, none_joined, read_has}
use Rattle.ec_packing.proofs.Members.{absent_monitor, monitor_part_is, object, shown}
use Rattle.ec_packing.proofs.objects.monitors_at.Goals as goal
use Rattle.ec_packing.specs.Packing.{monitor_goes}
use Rattle.ec_wire.specs.declared.parcel.MonitorPart.{MonitorPart}
use Rattle.ec_world.specs.Group.{Has}

pub loop-i-preserved-then-not-is_here : goal.loop-i-preserved-then-not-is_here
loop-i-preserved-then-not-is_here c d w table can =
    let s = c.args.system.now in
    let ms = c.args.members.now in
    let from = c.args.from in
    let oid = get_or ms c.loop-i.i 0 in
    none_joined (monitor_goes s.cluster w from) ms c.loop-i.i oid c.loop-i.parts (read_has ms c.loop-i.i (omega arith))
    (c.loop-i.invariant d w table can)
    (absent_monitor d s w table ms from can oid (sym c.is_here.ensures ∙ c.if-not-is_here.true))

pub loop-i-preserved-in_default : goal.loop-i-preserved-in_default
loop-i-preserved-in_default c d w table can =
    let s = c.args.system.now in
    let ms = c.args.members.now in
    let from = c.args.from in
    let oid = get_or ms c.loop-i.i 0 in
    let there = read_has ms c.loop-i.i (omega arith) in
    let member : Has ms oid = record { at = c.loop-i.i; is = there } in
    let here = sym c.is_here.ensures ∙ c.if-not-is_here.false in
    let is : c.in_ok-part.field-0 ≡ monitor_part_of oid (object d s w table ms from can oid member here).monitor =
    c.in_ok-part.ensures (object d s w table ms from can oid member here)
    (shown d s w table ms from can oid member here c.at-node.result.now c.at-node.ensures) in
    none_joined (monitor_goes s.cluster w from) ms c.loop-i.i oid c.loop-i.parts there (c.loop-i.invariant d w table can)
    (monitor_part_is d s w table ms from can oid member here
    ∙ ap (λ (x : Option MonitorPart). option_to_list x) (sym is ∙ c.in_default.is))

pub loop-i-preserved : goal.loop-i-preserved
loop-i-preserved c d w table can =
    let s = c.args.system.now in
    let ms = c.args.members.now in
    let from = c.args.from in
    let oid = get_or ms c.loop-i.i 0 in
    let there = read_has ms c.loop-i.i (omega arith) in
    let member : Has ms oid = record { at = c.loop-i.i; is = there } in
    let here = sym c.is_here.ensures ∙ c.if-not-is_here.false in
    let is : c.in_ok-part.field-0 ≡ monitor_part_of oid (object d s w table ms from can oid member here).monitor =
    c.in_ok-part.ensures (object d s w table ms from can oid member here)
    (shown d s w table ms from can oid member here c.at-node.result.now c.at-node.ensures) in
    more_joined (monitor_goes s.cluster w from) ms c.loop-i.i oid c.loop-i.parts c.push.new.self (c.in-Some.part ∷ []) there
    (c.loop-i.invariant d w table can)
    (monitor_part_is d s w table ms from can oid member here
    ∙ ap (λ (x : Option MonitorPart). option_to_list x) (sym is ∙ c.in-Some.is))
    c.in_ok-push.ensures.ok

pub returns : goal.returns
returns c d w table can =
    c.loop-i.invariant d w table can
    ∙ all_joined (monitor_goes c.args.system.now.cluster w c.args.from) c.args.members.now c.loop-i.i (omega arith)
