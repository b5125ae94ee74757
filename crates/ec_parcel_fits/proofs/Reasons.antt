-- Each cause is against one of the facts that contents which fit have.
use Rattle.std.proofs.Common.{◌≡◌, List, Option, None, sym, ap, ◌∙◌, subst, arith}
use Rattle.std.proofs.lemmas.Option.{same_Some}
use Rattle.std.specs.Prelude.{IsSome, length, slice_get}
use Rattle.ec_carrying.proofs.Texts.{bytes_among}
use Rattle.ec_carrying.specs.Landing.{IsClassed}
use Rattle.ec_carrying.specs.Unpacking.{ActivationFits, HasRoomHere}
use Rattle.ec_generate.specs.declared.table.OperationTable.{OperationTable}
use Rattle.ec_generate.specs.declared.table.StopEntry.{StopEntry}
use Rattle.ec_node_frames.specs.Carried.{carried}
use Rattle.ec_parcel_fits.specs.Unfitting.{ActivationFails, CausesAreReasons, ObjectFails, RoomFails}
use Rattle.ec_parcel_fits.specs.declared.causes.ActivationCause.{ActivationCause}
use Rattle.ec_parcel_fits.specs.declared.causes.ActivationCause.TheVariants.{Count, DepthTaken, Homes, NoStop}
use Rattle.ec_parcel_fits.specs.declared.causes.ObjectCause.{ObjectCause}
use Rattle.ec_parcel_fits.specs.declared.causes.ObjectCause.TheVariants.{NoClass, NumberTaken}
use Rattle.ec_parcel_fits.specs.declared.causes.Unfit.TheVariants.{NoRoom, OfActivation, OfMonitor, OfObject}
use Rattle.ec_parcels.proofs.Rising.{map_get}
use Rattle.ec_parcels.specs.Activations.{HasHomes, IsStopOf}
use Rattle.ec_parcels.specs.Classes.{ClassTable}
use Rattle.ec_parcels.specs.Owners.{frame_keys, object_keys}
use Rattle.ec_things.specs.Store.{Owned, Store}
use Rattle.ec_wire.specs.declared.parcel.ActivationPart.{ActivationPart}
use Rattle.ec_wire.specs.declared.parcel.Contents.{Contents}
use Rattle.ec_wire.specs.declared.parcel.ObjectPart.{ObjectPart}
use Rattle.ec_world.proofs.Members.{has_back, has_front}
use Rattle.ec_world.specs.Group.{Has}
use Rattle.ec_world.specs.declared.key.Key.TheVariants.{Frame, Object}
use Rattle.ec_world.specs.declared.room.Part.{Part}
use Rattle.ec_world.specs.declared.room.Part.TheVariants.{Blocks, Text}

object_against : (table : ClassTable) (s : Store) (part : ObjectPart) (cause : ObjectCause) → ObjectFails table s part cause →
    IsClassed table part → s.row (Object part.number) ≡ None → ⊥
object_against table s part NoClass fails classed new = let is = classed.is in cc
object_against table s part NumberTaken fails classed new = let none = subst (λ (o : Option Owned). IsSome o) new fails in cc

-- a part has one stop
module _ (tables : List OperationTable) (part : ActivationPart) (t u : OperationTable) (e f : StopEntry)
    (a : IsStopOf tables part t e) (b : IsStopOf tables part u f) where
  one_table : t ≡ u
  one_table = same_Some t u (sym a.its ∙ b.its)

  one_entry : e ≡ f
  one_entry = same_Some e f (sym a.stop ∙ ap (λ (x : OperationTable). slice_get x.stops part.stop) one_table ∙ b.stop)

activation_against : (tables : List OperationTable) (s : Store) (part : ActivationPart) (cause : ActivationCause) →
    ActivationFails tables s part cause → ActivationFits tables part → s.row (Frame part.process part.depth) ≡ None → ⊥
activation_against tables s part NoStop fails fits new = fails fits.table fits.entry fits.is
activation_against tables s part Count fails fits new =
    let e = one_entry tables part fits.table fails.table fits.entry fails.entry fits.is fails.is in
    fails.holds (subst (λ (x : StopEntry). length part.values ≡ length (carried x part.is_pending)) e fits.many)
activation_against tables s part Homes fails fits new =
    let t = one_table tables part fits.table fails.table fits.entry fails.entry fits.is fails.is in
    let e = one_entry tables part fits.table fails.table fits.entry fails.entry fits.is fails.is in
    fails.holds (subst (λ (y : OperationTable). HasHomes y fails.entry part) t
    (subst (λ (x : StopEntry). HasHomes fits.table x part) e fits.homes))
activation_against tables s part DepthTaken fails fits new = let none = subst (λ (o : Option Owned). IsSome o) new fails in cc

room_against : (table : ClassTable) (s : Store) (x : Contents) (part : Part) → RoomFails table s x part → HasRoomHere table s x → ⊥
room_against table s x Blocks fails room = let b = room.blocks in absurd (omega (arith, fails, b))
room_against table s x Text (bytes, (new, more)) room =
    let needs = room.texts.needs in
    let fewer = bytes_among new.texts needs.texts new.once (λ text h. (needs.these text).1 ((new.these text).0 h)) in
    let fits = room.texts.fits in
    let is = new.bytes in
    let its = needs.bytes in
    absurd (omega (arith, more, fewer, fits, is, its))

pub no_fit : CausesAreReasons
no_fit table tables s x (OfObject oid cause) u fits =
    object_against table s u.part cause u.fails (fits.program.objects u.part u.has)
    (fits.room.new (Object u.part.number) (has_front (Object u.part.number) (object_keys x.objects) (frame_keys x.activations)
    (record { at = u.has.at; is = map_get (λ (o : ObjectPart). Object o.number) x.objects u.has.at u.part u.has.is })))
no_fit table tables s x (OfMonitor oid) u fits =
    u.none (subst (λ n. Has (object_keys x.objects) (Object n)) u.is (fits.program.monitors u.part u.has))
no_fit table tables s x (OfActivation process depth cause) u fits =
    activation_against tables s u.part cause u.fails (fits.program.activations u.part u.has)
    (fits.room.new (Frame u.part.process u.part.depth)
    (has_back (Frame u.part.process u.part.depth) (object_keys x.objects) (frame_keys x.activations)
    (record { at = u.has.at; is = map_get (λ (a : ActivationPart). Frame a.process a.depth) x.activations u.has.at u.part u.has.is })))
no_fit table tables s x (NoRoom part) u fits = room_against table s x part u fits.room
