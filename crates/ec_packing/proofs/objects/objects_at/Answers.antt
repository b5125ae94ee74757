-- What goes of one member more.
use Rattle.std.proofs.Common.{◌≡◌, ◌∷◌, [], arith, sym, ap, ◌∙◌, get_or}
use Rattle.ec_parcels.specs.Objects.{part_of}
use Rattle.ec_packing.proofs.Joining.{more_joined, read_has}
use Rattle.ec_packing.proofs.Members.{class, leaves, object, object_part_is}
use Rattle.ec_packing.proofs.objects.objects_at.Goals as goal
use Rattle.ec_packing.specs.Packing.{object_goes}
use Rattle.ec_wire.specs.declared.parcel.ObjectPart.{ObjectPart}
use Rattle.ec_world.specs.Group.{Has}

pub object_part-requires : goal.object_part-requires
object_part-requires c =
    let z = c.requires in
    let s = c.args.system.now in
    let ms = c.args.members.now in
    let oid = get_or ms c.loop-i.i 0 in
    let member : Has ms oid = record { at = c.loop-i.i; is = read_has ms c.loop-i.i (omega arith) } in
    let here = sym c.is_here.ensures ∙ c.if-not-is_here.false in
    record {
      object = object z.declared s z.world c.args.numbers.now ms c.args.from z.goes oid member here;
      number = class z.declared s z.world c.args.numbers.now ms c.args.from z.goes oid member here;
      goes = leaves z.declared s z.world c.args.numbers.now ms c.args.from z.goes oid member here c.at-node.result.now c.at-node.ensures;
    }

pub loop-i-preserved : goal.loop-i-preserved
loop-i-preserved c d w can =
    let s = c.args.system.now in
    let table = c.args.numbers.now in
    let ms = c.args.members.now in
    let from = c.args.from in
    let oid = get_or ms c.loop-i.i 0 in
    let there = read_has ms c.loop-i.i (omega arith) in
    let member : Has ms oid = record { at = c.loop-i.i; is = there } in
    let here = sym c.is_here.ensures ∙ c.if-not-is_here.false in
    let is : c.in_ok-part.part ≡ part_of oid (class d s w table ms from can oid member here) (object d s w table ms from can oid member here) =
    c.in_ok-part.ensures (object d s w table ms from can oid member here) (class d s w table ms from can oid member here)
    (leaves d s w table ms from can oid member here c.at-node.result.now c.at-node.ensures) in
    more_joined (object_goes table s.cluster w from) ms c.loop-i.i oid c.loop-i.parts c.push.new.self (c.in_ok-part.part ∷ []) there
    (c.loop-i.invariant d w can)
    (object_part_is d s w table ms from can oid member here ∙ ap (λ (x : ObjectPart). x ∷ []) (sym is))
    c.in_ok-push.ensures.ok
