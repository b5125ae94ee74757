-- All that is in the parcel sets off, and is unpacked where it goes.
use Rattle.std.proofs.Common.{◌≡◌, ◌∙◌, ℕ, List, subst, sym}
use Rattle.ec_carrying.proofs.At.{on_ok_so}
use Rattle.ec_carrying.proofs.Composing.{moves_composed}
use Rattle.ec_carrying.proofs.Going.{all_at, all_kept, can_unpack, in_words}
use Rattle.ec_carrying.proofs.carrying.carry.Goals as goal
use Rattle.ec_carrying.specs.Carrying.{Carried}
use Rattle.ec_cluster.specs.Whereabouts.{Traces, WentTo}
use Rattle.ec_formats.proofs.Wholes.{one_value}
use Rattle.ec_wire.proofs.FormLaws.{parcel_law}
use Rattle.ec_wire.specs.WireForm.{IsWire, parcel}
use Rattle.ec_wire.specs.declared.parcel.Contents.{Contents}

-- bytes have one parcel
spelled_so : (x y z : Contents) (bytes : List ℕ) → x ≡ y → IsWire y bytes → IsWire z bytes → x ≡ z
spelled_so x y z bytes same wire other = same ∙ one_value parcel parcel_law y z bytes wire other

pub set_off-requires-clause-kept : goal.set_off-requires-clause-kept
set_off-requires-clause-kept c =
    let r = c.requires.can in
    let same =
    spelled_so c.contents.result.now c.args.parcel.now r.contents c.args.bytes.now c.contents.ensures.same c.requires.spelled
    r.carried.wire in
    all_kept (in_words r.contents c.contents.result.now same r.carried)

pub set_off-requires-clause-there : goal.set_off-requires-clause-there
set_off-requires-clause-there c =
    let r = c.requires.can in
    let same =
    spelled_so c.contents.result.now c.args.parcel.now r.contents c.args.bytes.now c.contents.ensures.same c.requires.spelled
    r.carried.wire in
    all_at (in_words r.contents c.contents.result.now same r.carried)

pub set_off-requires-clause-apart : goal.set_off-requires-clause-apart
set_off-requires-clause-apart c = c.requires.can.carried.apart

pub unpack_at-requires : goal.unpack_at-requires
unpack_at-requires c =
    let r = c.requires.can in
    let same =
    spelled_so c.contents.result.now c.args.parcel.now r.contents c.args.bytes.now c.contents.ensures.same c.requires.spelled
    r.carried.wire in
    can_unpack (in_words r.contents c.contents.result.now same r.carried) c.made-made.ensures.table c.in_ok-set_off.ensures.off

pub returns-clause-carried : goal.returns-clause-carried
returns-clause-carried c = on_ok_so c.unpack_at.result
    (λ unpacked d w members x carried.
    let y = c.contents.result.now in
    let same =
    spelled_so y c.args.parcel.now x c.args.bytes.now c.contents.ensures.same c.requires.spelled carried.wire in
    let i = in_words x y same carried in
    subst (λ (z : Contents). Carried c.args.cluster.now c.unpack_at.new.cluster w z c.args.to) same
    (moves_composed c.args.numbers.now c.args.cluster.now c.set_off.new.cluster c.unpack_at.new.cluster c.args.from c.args.to
    c.args.bytes.now d w members y c.made-made.ensures.table i c.in_ok-set_off.ensures.off (unpacked y i.wire)))
    c.unpack_at.ensures

pub returns-clause-went : goal.returns-clause-went
returns-clause-went c = on_ok_so c.unpack_at.result
    (λ unpacked.
    let r = c.requires.can in
    let y = c.contents.result.now in
    let same =
    spelled_so y c.args.parcel.now r.contents c.args.bytes.now c.contents.ensures.same c.requires.spelled r.carried.wire in
    let i = in_words r.contents y same r.carried in
    subst (λ (d : Traces). WentTo c.args.to c.args.cluster.now.whereabouts d) (sym (unpacked y i.wire).whereabouts)
    c.in_ok-set_off.ensures.went)
    c.unpack_at.ensures
