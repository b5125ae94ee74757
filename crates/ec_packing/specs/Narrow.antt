-- Numbers of 32 bits in a parcel.
use Rattle.std.specs.Prelude.{◌≡◌, ◌^◌, ◌<◌, ℕ, List, Option, Some, None, slice_get}
use Rattle.ec_monitors.specs.declared.record.Hold.{Hold}
use Rattle.ec_monitors.specs.declared.record.MonitorRec.{MonitorRec}
use Rattle.ec_wire.specs.declared.parcel.ActivationPart.{ActivationPart}
use Rattle.ec_wire.specs.declared.parcel.Contents.{Contents}
use Rattle.ec_wire.specs.declared.parcel.MonitorPart.{MonitorPart}
use Rattle.ec_wire.specs.declared.parcel.ObjectPart.{ObjectPart}
use Rattle.ec_world.specs.declared.value.Value.{Value}
use Rattle.ec_world.specs.declared.value.Value.TheVariants.{Int, Str, Ref, Nil, Bool as Truth}

-- so it is with each item of a list
abbrev pub EachIs : {A : Type 0} → (A → Type 0) → List A → Type 0
EachIs {A = A} P xs = (i : ℕ) (x : A) → slice_get xs i ≡ Some x → P x

-- with each of the first so many
abbrev pub FirstAre : {A : Type 0} → (A → Type 0) → List A → ℕ → Type 0
FirstAre {A = A} P xs n = (i : ℕ) (x : A) → i < n → slice_get xs i ≡ Some x → P x

abbrev pub HasBits : ℕ → Type 0
HasBits n = n < 2 ^ 32

-- the number of an object to which it refers
abbrev pub IsNarrow : Value → Type 0
IsNarrow (Ref o) = HasBits o
IsNarrow (Int z) = Unit {0}
IsNarrow (Str s) = Unit {0}
IsNarrow (Truth b) = Unit {0}
IsNarrow Nil = Unit {0}

pub record NarrowObject (part : ObjectPart) : Type 0 where
  pub number : HasBits part.number
  pub class : HasBits part.class
  pub values : EachIs IsNarrow part.values

pub record NarrowHold (h : Hold) : Type 0 where
  pub process : HasBits h.process
  pub depth : HasBits h.depth

abbrev pub NarrowHolder : Option Hold → Type 0
NarrowHolder None = Unit {0}
NarrowHolder (Some h) = NarrowHold h

pub record NarrowMonitor (m : MonitorRec) : Type 0 where
  pub holder : NarrowHolder m.holder
  pub entry : EachIs HasBits m.entry
  pub urgent : EachIs NarrowHold m.urgent
  pub conditions : EachIs (EachIs NarrowHold) m.conditions

pub record NarrowPart (part : MonitorPart) : Type 0 where
  pub object : HasBits part.object
  pub monitor : NarrowMonitor part.monitor

pub record NarrowActivation (part : ActivationPart) : Type 0 where
  pub process : HasBits part.process
  pub depth : HasBits part.depth
  pub operation : HasBits part.operation
  pub stop : HasBits part.stop
  pub own : HasBits part.own
  pub values : EachIs IsNarrow part.values

-- each number of a parcel
pub record NarrowContents (x : Contents) : Type 0 where
  pub objects : EachIs NarrowObject x.objects
  pub monitors : EachIs NarrowPart x.monitors
  pub activations : EachIs NarrowActivation x.activations
