-- Why the contents of a parcel don't fit at a node, whoever wrote them.
use Rattle.std.specs.Prelude.{◌≡◌, ◌≢◌, ℕ, ◌<◌, IsSome, List, None, Some, length, slice_get}
use Rattle.ec_carrying.specs.Unpacking.{ActivationFits, AreOfProgram, HasRoomHere}
use Rattle.ec_code.specs.declared.code.Live.{Live}
use Rattle.ec_generate.specs.declared.table.OperationTable.{OperationTable}
use Rattle.ec_generate.specs.declared.table.StopEntry.{StopEntry}
use Rattle.ec_node_frames.specs.Carried.{carried}
use Rattle.ec_node_frames.specs.Loops.{spot_of}
use Rattle.ec_parcel_fits.specs.declared.causes.ActivationCause.{ActivationCause}
use Rattle.ec_parcel_fits.specs.declared.causes.ActivationCause.TheVariants.{Count, DepthTaken, Homes, NoStop}
use Rattle.ec_parcel_fits.specs.declared.causes.ObjectCause.{ObjectCause}
use Rattle.ec_parcel_fits.specs.declared.causes.ObjectCause.TheVariants.{NoClass, NumberTaken}
use Rattle.ec_parcel_fits.specs.declared.causes.Unfit.{Unfit}
use Rattle.ec_parcel_fits.specs.declared.causes.Unfit.TheVariants.{NoRoom, OfActivation, OfMonitor, OfObject}
use Rattle.ec_parcels.specs.Activations.{HasHomes, IsStopOf}
use Rattle.ec_parcels.specs.Classes.{ClassTable, class_of}
use Rattle.ec_parcels.specs.Owners.{blocks_in, object_keys, values_in}
use Rattle.ec_things.specs.Store.{Store}
use Rattle.ec_things.specs.Texts.{NewBytes}
use Rattle.ec_wire.specs.declared.parcel.ActivationPart.{ActivationPart}
use Rattle.ec_wire.specs.declared.parcel.Contents.{Contents}
use Rattle.ec_wire.specs.declared.parcel.MonitorPart.{MonitorPart}
use Rattle.ec_wire.specs.declared.parcel.ObjectPart.{ObjectPart}
use Rattle.ec_world.specs.Group.{Has}
use Rattle.ec_world.specs.declared.key.Key.TheVariants.{Frame, Object}
use Rattle.ec_world.specs.declared.room.Part.{Part}
use Rattle.ec_world.specs.declared.room.Part.TheVariants.{Blocks, Text}
use Rattle.ec_world.specs.declared.value.Value.{Value}
use Rattle.ec_world.specs.declared.value.Value.TheVariants.{Str}

-- ---- objects

-- No class has the number; or the node has an object of this number already.
abbrev pub ObjectFails : ClassTable → Store → ObjectPart → ObjectCause → Type 0
ObjectFails table s part NoClass = class_of table part.class ≡ None
ObjectFails table s part NumberTaken = IsSome (s.row (Object part.number))

-- an object among these fails, by its number
pub record UnfitObject (table : ClassTable) (s : Store) (objects : List ObjectPart) (oid : ℕ) (cause : ObjectCause) : Type 0 where
  pub part : ObjectPart
  pub has : Has objects part
  pub is : part.number ≡ oid
  pub fails : ObjectFails table s part cause

-- its class has the number, and the node doesn't have the object
pub record ObjectFits (table : ClassTable) (s : Store) (part : ObjectPart) : Type 0 where
  pub class : IsSome (class_of table part.class)
  pub new : s.row (Object part.number) ≡ None

-- ---- monitors

-- one of these monitors is of an object of this number, which is none of these objects
pub record StrayMonitor (monitors : List MonitorPart) (objects : List ObjectPart) (oid : ℕ) : Type 0 where
  pub part : MonitorPart
  pub has : Has monitors part
  pub is : part.object ≡ oid
  pub none : Has (object_keys objects) (Object oid) → ⊥

-- ---- activations

-- A part is at a stop of the tables, and something holds there.
pub record AtStop (tables : List OperationTable) (part : ActivationPart) (Holds : OperationTable → StopEntry → Type 0) : Type 0 where
  pub table : OperationTable
  pub entry : StopEntry
  pub is : IsStopOf tables part table entry
  pub holds : Holds table entry

-- There is no such operation, or no such stop of it; it has more or fewer values than variables whose values go from there; one of these
-- has no word of the frame, or two of them have one word and two values; or the node has an activation at its depth of its process.
abbrev pub ActivationFails : List OperationTable → Store → ActivationPart → ActivationCause → Type 0
ActivationFails tables s part NoStop = (table : OperationTable) (e : StopEntry) → IsStopOf tables part table e → ⊥
ActivationFails tables s part Count = AtStop tables part (λ table e. length part.values ≢ length (carried e part.is_pending))
ActivationFails tables s part Homes = AtStop tables part (λ table e. HasHomes table e part → ⊥)
ActivationFails tables s part DepthTaken = IsSome (s.row (Frame part.process part.depth))

-- an activation among these fails, by its process and its depth
pub record UnfitActivation (tables : List OperationTable) (s : Store) (parts : List ActivationPart) (process depth : ℕ)
    (cause : ActivationCause) : Type 0 where
  pub part : ActivationPart
  pub has : Has parts part
  pub process_is : part.process ≡ process
  pub depth_is : part.depth ≡ depth
  pub fails : ActivationFails tables s part cause

-- it fits by the tables, and the node doesn't have it
pub record ActivationStands (tables : List OperationTable) (s : Store) (part : ActivationPart) : Type 0 where
  pub fits : ActivationFits tables part
  pub new : s.row (Frame part.process part.depth) ≡ None

-- Variable i has a word of the frame, and each other one that has this word has its value.
pub record VariableFits (table : OperationTable) (held : List Live) (values : List Value) (i : ℕ) : Type 0 where
  pub low : (l : Live) → slice_get held i ≡ Some l → spot_of table l < 128
  pub one : (j : ℕ) (l m : Live) (v u : Value) → slice_get held i ≡ Some l → slice_get held j ≡ Some m → slice_get values i ≡ Some v →
      slice_get values j ≡ Some u → spot_of table l ≡ spot_of table m → v ≡ u

-- ---- room

-- The node has fewer free blocks; or less room than the new texts want.
abbrev pub RoomFails : ClassTable → Store → Contents → Part → Type 0
RoomFails table s x Blocks = s.free < blocks_in table x
RoomFails table s x Text = (bytes : ℕ) × (NewBytes (λ text. Has (values_in x) (Str text)) s bytes × (s.text_free < bytes))

-- ---- all of it

-- why contents don't fit, case by case
abbrev pub IsUnfit : ClassTable → List OperationTable → Store → Contents → Unfit → Type 0
IsUnfit table tables s x (OfObject oid cause) = UnfitObject table s x.objects oid cause
IsUnfit table tables s x (OfMonitor oid) = StrayMonitor x.monitors x.objects oid
IsUnfit table tables s x (OfActivation process depth cause) = UnfitActivation tables s x.activations process depth cause
IsUnfit table tables s x (NoRoom part) = RoomFails table s x part

-- contents that fit at a node
pub record Fits (table : ClassTable) (tables : List OperationTable) (s : Store) (x : Contents) : Type 0 where
  pub program : AreOfProgram table tables x
  pub room : HasRoomHere table s x

-- What is told why contents don't fit is a reason: then they don't.
abbrev pub CausesAreReasons : Type 0
CausesAreReasons = (table : ClassTable) (tables : List OperationTable) (s : Store) (x : Contents) (u : Unfit) →
    IsUnfit table tables s x u → Fits table tables s x → ⊥
