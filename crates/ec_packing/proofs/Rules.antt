-- Parts that keep the rules of the wire form.
use Rattle.std.proofs.Common.{◌≡◌, ◌<◌, ◌≤◌, ◌+◌, ◌^◌, ◌||◌, ◌⊎◌, ℕ, zero, suc, Bool, true, false, List, [], ◌∷◌, length, take, Option, Some, None}
use Rattle.std.proofs.Common.{refl, sym, ap, ◌∙◌, subst, arith, ⊎_elim}
use Rattle.std.proofs.lemmas.Bool.{le-ltb, lt-ltb}
use Rattle.std.proofs.lemmas.Option.{same_Some}
use Rattle.std.specs.Int.{w32}
use Rattle.std.specs.Prelude.{FitsSigned, ℤ, pos, negsuc, if◌then◌else◌, nat_lt, slice_get}
use Rattle.ec_base.proofs.Lists.{get_there, get_within}
use Rattle.ec_base.specs.Stack.{top_of}
use Rattle.ec_code.specs.Typing.{Declared}
use Rattle.ec_types.specs.declared.conform.static_type.StaticType.{StaticType}
use Rattle.ec_formats.proofs.ListLaws.{all_fit}
use Rattle.ec_formats.proofs.Steps.{both}
use Rattle.ec_formats.specs.Fields.{at_least, at_most, integer_fits, number, number_from, truth}
use Rattle.ec_formats.specs.Format.{Format}
use Rattle.ec_formats.specs.Lists.{list, list_of, optional}
use Rattle.ec_monitors.specs.Laws.{AllDeep, DeepIf, EachDeep, HasDepths}
use Rattle.ec_monitors.specs.declared.record.Hold.{Hold}
use Rattle.ec_monitors.specs.declared.record.MonitorRec.{MonitorRec}
use Rattle.ec_packing.proofs.Carrying.{IsGood}
use Rattle.ec_packing.proofs.Sorting.{Sorted, sorted_at, top_taken}
use Rattle.ec_packing.specs.Narrow.{EachIs, HasBits, IsNarrow, NarrowActivation, NarrowHold, NarrowHolder, NarrowMonitor, NarrowObject, NarrowPart}
use Rattle.ec_code.specs.SoundValues.{own_type}
use Rattle.ec_wire.specs.WireForm.{activation, depth_follows, hold, last_number, last_object, monitor, monitor_record, most, object}
use Rattle.ec_wire.specs.WireForm.{process_follows, value, value_fits}
use Rattle.ec_wire.specs.declared.parcel.ActivationPart.{ActivationPart}
use Rattle.ec_wire.specs.declared.parcel.MonitorPart.{MonitorPart}
use Rattle.ec_wire.specs.declared.parcel.ObjectPart.{ObjectPart}
use Rattle.ec_world.specs.declared.object.ObjectRec.{ObjectRec}
use Rattle.ec_world.specs.declared.value.Value.{Value}
use Rattle.ec_world.specs.declared.value.Value.TheVariants.{Int, Str, Ref, Nil, Bool as Truth}

-- ---- values

integer_keeps : (z : ℤ) → FitsSigned w32 z → integer_fits z ≡ true
integer_keeps (pos n) h = lt-ltb _ _ h.sfits
integer_keeps (negsuc n) h = lt-ltb _ _ h.sfits

-- an object that is there has a number from 1 on
numbered : (d : Declared) (objects : List ObjectRec) (o : ℕ) (t : StaticType) → own_type d objects (Ref o) ≡ Some t → 0 < o
numbered d objects zero t e = absurd cc
numbered d objects (suc o) t e = omega arith

pub from_one : (n : ℕ) → HasBits n → 0 < n → (number_from 1).fits n ≡ true
from_one n h positive =
    both (nat_lt n (2 ^ 32)) (at_least 1 n) (lt-ltb _ _ h)
    (ap (λ b. if b then false else true) (let not : nat_lt n 1 ≡ false = le-ltb _ _ (omega arith) in not))

pub value_keeps : (d : Declared) (objects : List ObjectRec) (v : Value) → IsGood d objects v → IsNarrow v → value_fits v ≡ true
unfolding value_fits
value_keeps d objects Nil good narrow = refl
value_keeps d objects (Int z) good narrow = integer_keeps z good.ranged
value_keeps d objects (Truth b) good narrow = refl
value_keeps d objects (Str s) good narrow =
    let short = good.ranged.short in
    both (nat_lt (length s) (2 ^ 32)) (at_most 65535 (length s)) (lt-ltb _ _ (omega arith)) (lt-ltb _ _ (omega arith))
value_keeps d objects (Ref o) good narrow = from_one o narrow (numbered d objects o good.fits.of good.fits.is)

-- ---- lists

pub list_keeps : {A : Type 0} (limit : ℕ) (f : Format A) (xs : List A) → limit < 2 ^ 32 → length xs ≤ limit →
    EachIs (λ x. f.fits x ≡ true) xs → (list_of limit f).fits xs ≡ true
list_keeps limit f xs small few each =
    both _ _ (both (nat_lt (length xs) (2 ^ 32)) (at_most limit (length xs)) (lt-ltb _ _ (omega arith)) (lt-ltb _ _ (omega arith)))
    (all_fit (λ _. f) xs each)

pub items_keep : {A : Type 0} (item : List A → Format A) (xs : List A) → length xs < 2 ^ 32 →
    ((i : ℕ) (x : A) → slice_get xs i ≡ Some x → (item (take i xs)).fits x ≡ true) → (list most item).fits xs ≡ true
items_keep item xs few each =
    both _ _ (both (nat_lt (length xs) (2 ^ 32)) (at_most most (length xs)) (lt-ltb _ _ few) (lt-ltb _ _ (omega arith)))
    (all_fit item xs each)

-- what stands just before an item comes before it
module _ {A : Type 0} (Before : A → A → Type 0) where
  abbrev pub After : Option A → A → Type 0
  After None x = Unit {0}
  After (Some a) x = Before a x

  pub comes_after : (xs : List A) → Sorted Before xs → (i : ℕ) (x : A) → slice_get xs i ≡ Some x → After (top_of (take i xs)) x
  comes_after xs sorted zero x e = tt
  comes_after xs sorted (suc i) x e =
      let l = get_within xs (suc i) x e in
      let a = get_there xs i (omega arith) in
      let at : i + suc zero ≡ suc i = omega arith in
      subst (λ (o : Option A). After o x) (sym (top_taken xs i a.0 a.1))
      (sorted_at Before xs i zero a.0 x sorted a.1 (ap (slice_get xs) at ∙ e))

-- ---- objects

abbrev pub NumberBefore : ObjectPart → ObjectPart → Type 0
NumberBefore a b = a.number < b.number

above_last : (last : Option ObjectPart) (part : ObjectPart) → 0 < part.number → After NumberBefore last part →
    last_number last < part.number
above_last None part positive h = positive
above_last (Some a) part positive h = h

pub object_keeps : (before : List ObjectPart) (part : ObjectPart) → NarrowObject part → last_number (top_of before) < part.number →
    length part.values ≤ 16384 → EachIs (λ v. value_fits v ≡ true) part.values → (object before).fits part ≡ true
object_keeps before part narrow above few values =
    both _ _
    (both (nat_lt part.number (2 ^ 32)) (nat_lt (last_number (top_of before)) part.number) (lt-ltb _ _ narrow.number) (lt-ltb _ _ above))
    (both _ _ (lt-ltb _ _ narrow.class) (list_keeps 16384 value part.values (omega arith) few values))

pub objects_keep : (xs : List ObjectPart) → Sorted NumberBefore xs → length xs < 2 ^ 32 → EachIs NarrowObject xs →
    EachIs (λ (part : ObjectPart). 0 < part.number) xs → EachIs (λ (part : ObjectPart). length part.values ≤ 16384) xs →
    EachIs (λ (part : ObjectPart). EachIs (λ v. value_fits v ≡ true) part.values) xs → (list most object).fits xs ≡ true
objects_keep xs sorted few narrow positive short values = items_keep object xs few
    (λ i part e. object_keeps (take i xs) part (narrow i part e)
    (above_last (top_of (take i xs)) part (positive i part e) (comes_after NumberBefore xs sorted i part e)) (short i part e)
    (values i part e))

-- ---- monitors

abbrev pub ObjectBefore : MonitorPart → MonitorPart → Type 0
ObjectBefore a b = a.object < b.object

above_object : (last : Option MonitorPart) (part : MonitorPart) → 0 < part.object → After ObjectBefore last part →
    last_object last < part.object
above_object None part positive h = positive
above_object (Some a) part positive h = h

pub hold_keeps : (h : Hold) → NarrowHold h → 1 ≤ h.depth → hold.fits h ≡ true
hold_keeps h narrow deep =
    both (nat_lt h.process (2 ^ 32)) _ (lt-ltb _ _ narrow.process) (from_one h.depth narrow.depth (omega arith))

deep_at : (hs : List Hold) → EachDeep hs → (i : ℕ) (h : Hold) → slice_get hs i ≡ Some h → 1 ≤ h.depth
deep_at [] deep i h e = absurd cc
deep_at (g ∷ hs) deep zero h e = subst (λ (x : Hold). 1 ≤ x.depth) (same_Some g h e) deep.0
deep_at (g ∷ hs) deep (suc i) h e = deep_at hs deep.1 i h e

deep_queue : (qs : List (List Hold)) → AllDeep qs → (i : ℕ) (q : List Hold) → slice_get qs i ≡ Some q → EachDeep q
deep_queue [] deep i q e = absurd cc
deep_queue (r ∷ qs) deep zero q e = subst (λ (x : List Hold). EachDeep x) (same_Some r q e) deep.0
deep_queue (r ∷ qs) deep (suc i) q e = deep_queue qs deep.1 i q e

pub holds_keep : (hs : List Hold) → EachIs NarrowHold hs → EachDeep hs → length hs < 2 ^ 32 → (list_of most hold).fits hs ≡ true
holds_keep hs narrow deep few =
    list_keeps most hold hs (omega arith) (omega arith) (λ i h e. hold_keeps h (narrow i h e) (deep_at hs deep i h e))

-- a monitor each of whose lists 32 bits count
pub record IsShort (m : MonitorRec) : Type 0 where
  pub entry : length m.entry < 2 ^ 32
  pub urgent : length m.urgent < 2 ^ 32
  pub conditions : length m.conditions < 2 ^ 32
  pub queues : EachIs (λ (q : List Hold). length q < 2 ^ 32) m.conditions

holder_keeps : (x : Option Hold) → NarrowHolder x → DeepIf x → (optional hold).fits x ≡ true
holder_keeps None narrow deep = refl
holder_keeps (Some h) narrow deep = hold_keeps h narrow deep

pub record_keeps : (m : MonitorRec) → NarrowMonitor m → HasDepths m → IsShort m → monitor_record.fits m ≡ true
record_keeps m narrow deep short =
    both _ _ (holder_keeps m.holder narrow.holder deep.0)
    (both _ _ (list_keeps most number m.entry (omega arith) (let s = short.entry in omega arith) (λ i n e. lt-ltb _ _ (narrow.entry i n e)))
    (both _ _ (holds_keep m.urgent narrow.urgent deep.1 short.urgent)
    (list_keeps most (list_of most hold) m.conditions (omega arith) (let s = short.conditions in omega arith)
    (λ i q e. holds_keep q (narrow.conditions i q e) (deep_queue m.conditions deep.2 i q e) (short.queues i q e)))))

pub monitors_keep : (xs : List MonitorPart) → Sorted ObjectBefore xs → length xs < 2 ^ 32 → EachIs NarrowPart xs →
    EachIs (λ (part : MonitorPart). 0 < part.object) xs → EachIs (λ (part : MonitorPart). HasDepths part.monitor) xs →
    EachIs (λ (part : MonitorPart). IsShort part.monitor) xs → (list most monitor).fits xs ≡ true
monitors_keep xs sorted few narrow positive deep short = items_keep monitor xs few (λ i part e.
    both _ _
    (both (nat_lt part.object (2 ^ 32)) (nat_lt (last_object (top_of (take i xs))) part.object) (lt-ltb _ _ (narrow i part e).object)
    (lt-ltb _ _ (above_object (top_of (take i xs)) part (positive i part e) (comes_after ObjectBefore xs sorted i part e))))
    (record_keeps part.monitor (narrow i part e).monitor (deep i part e) (short i part e)))

-- ---- activations

-- by process, then by depth
abbrev pub ActivationBefore : ActivationPart → ActivationPart → Type 0
ActivationBefore a b = (a.process < b.process) ⊎ ((a.process ≡ b.process) × (a.depth < b.depth))

not_below : (m n : ℕ) → m ≤ n → at_least m n ≡ true
not_below m n h = ap (λ b. if b then false else true) (let not : nat_lt n m ≡ false = le-ltb _ _ h in not)

or_true : (b : Bool) → (b || true) ≡ true
or_true true = refl
or_true false = refl

process_after : (last : Option ActivationPart) (b : ActivationPart) → After ActivationBefore last b → process_follows last b.process ≡ true
process_after None b h = refl
process_after (Some a) b h = not_below a.process b.process (⊎_elim
    (λ (l : a.process < b.process). omega arith)
    (λ (s : (a.process ≡ b.process) × (a.depth < b.depth)). omega (arith, s.0))
    h)

depth_after : (last : Option ActivationPart) (b : ActivationPart) → After ActivationBefore last b →
    depth_follows last b.process b.depth ≡ true
depth_after None b h = refl
depth_after (Some a) b h = ⊎_elim
    (λ (l : a.process < b.process). ap (λ x. x || nat_lt a.depth b.depth) (lt-ltb a.process b.process l))
    (λ (s : (a.process ≡ b.process) × (a.depth < b.depth)).
    ap (λ x. nat_lt a.process b.process || x) (lt-ltb a.depth b.depth s.1) ∙ or_true (nat_lt a.process b.process))
    h

pub activations_keep : (xs : List ActivationPart) → Sorted ActivationBefore xs → length xs < 2 ^ 32 → EachIs NarrowActivation xs →
    EachIs (λ (part : ActivationPart). 0 < part.own) xs → EachIs (λ (part : ActivationPart). length part.values ≤ 100) xs →
    EachIs (λ (part : ActivationPart). EachIs (λ v. value_fits v ≡ true) part.values) xs → (list most activation).fits xs ≡ true
activations_keep xs sorted few narrow positive short values = items_keep activation xs few (λ i part e.
    let after = comes_after ActivationBefore xs sorted i part e in
    let n = narrow i part e in
    both _ _ (both _ _ (lt-ltb _ _ n.process) (process_after (top_of (take i xs)) part after))
    (both _ _ (both _ _ (lt-ltb _ _ n.depth) (depth_after (top_of (take i xs)) part after))
    (both _ _ (lt-ltb _ _ n.operation)
    (both _ _ (lt-ltb _ _ n.stop)
    (both _ _ (truth_keeps part.is_pending)
    (both _ _ (from_one part.own n.own (positive i part e))
    (list_keeps 100 value part.values (omega arith) (short i part e) (values i part e))))))))
  where
    truth_keeps : (b : Bool) → truth.fits b ≡ true
    truth_keeps true = refl
    truth_keeps false = refl
