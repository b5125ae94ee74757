-- Contents of a parcel that come to a node: what they ask of it, and what it then shows. No world is spoken of.
use Rattle.std.specs.Prelude.{◌≡◌, ℕ, ◌+◌, ◌≤◌, List, [], length, Some, None}
use Rattle.ec_carrying.specs.Landing.{AreClassed, monitor_in}
use Rattle.ec_cluster.specs.Cluster.{stores}
use Rattle.ec_cluster.specs.Frames.{tables_on}
use Rattle.ec_cluster.specs.declared.cluster.Cluster.{Cluster}
use Rattle.ec_generate.specs.declared.table.OperationTable.{OperationTable}
use Rattle.ec_generate.specs.declared.table.StopEntry.{StopEntry}
use Rattle.ec_node_frames.specs.Carried.{carried}
use Rattle.ec_objects.specs.Values.{TextsFit}
use Rattle.ec_parcels.specs.Activations.{HasHomes, IsStopOf, frame_in}
use Rattle.ec_parcels.specs.Classes.{ClassTable, class_of}
use Rattle.ec_parcels.specs.Objects.{object_of}
use Rattle.ec_parcels.specs.Owners.{blocks_in, keys_of, object_keys, values_in}
use Rattle.ec_things.specs.Store.{Grown, KeptRow, Store, Tidy}
use Rattle.ec_things.specs.Texts.{GetsTexts}
use Rattle.ec_things.specs.Things.{NodePut, Shown, Thing, object_thing}
use Rattle.ec_wire.specs.WireForm.{IsWire}
use Rattle.ec_wire.specs.declared.parcel.ActivationPart.{ActivationPart}
use Rattle.ec_wire.specs.declared.parcel.Contents.{Contents}
use Rattle.ec_wire.specs.declared.parcel.MonitorPart.{MonitorPart}
use Rattle.ec_wire.specs.declared.parcel.ObjectPart.{ObjectPart}
use Rattle.ec_world.specs.Group.{Has}
use Rattle.ec_world.specs.Held.{Distinct}
use Rattle.ec_world.specs.declared.class.ClassNo.{ClassNo}
use Rattle.ec_world.specs.declared.key.Key.{Key}
use Rattle.ec_world.specs.declared.key.Key.TheVariants.{Frame, Object}
use Rattle.ec_world.specs.declared.value.Value.TheVariants.{Str}

-- ---- what is asked of the contents

-- An activation's part has an operation and a stop of it, a value for each variable that is live there, and for variables that have one
-- word of the frame one value.
pub record ActivationFits (tables : List OperationTable) (part : ActivationPart) : Type 0 where
  pub table : OperationTable
  pub entry : StopEntry
  pub is : IsStopOf tables part table entry
  pub many : length part.values ≡ length (carried entry part.is_pending)
  pub homes : HasHomes table entry part

-- The contents are of things of a program, by the numbers of its classes and by the tables of its operations on the node's kind.
pub record AreOfProgram (table : ClassTable) (tables : List OperationTable) (x : Contents) : Type 0 where
  pub objects : AreClassed table x.objects
  -- no monitor is of an object that isn't in the parcel
  pub monitors : (part : MonitorPart) → Has x.monitors part → Has (object_keys x.objects) (Object part.object)
  pub activations : (part : ActivationPart) → Has x.activations part → ActivationFits tables part

-- A node has none of the owners, which stand each once, and room for all of them.
pub record HasRoomHere (table : ClassTable) (s : Store) (x : Contents) : Type 0 where
  pub tidy : Tidy s
  pub once : Distinct (keys_of x)
  pub new : (key : Key) → Has (keys_of x) key → s.row key ≡ None
  pub blocks : blocks_in table x ≤ s.free
  pub texts : TextsFit s (values_in x)

-- The bytes are those of such contents.
pub record CanUnpack (table : ClassTable) (tables : List OperationTable) (s : Store) (bytes : List ℕ) : Type 0 where
  pub contents : Contents
  pub wire : IsWire contents bytes
  pub fits : AreOfProgram table tables contents
  pub room : HasRoomHere table s contents

-- ---- what has come

-- an object of a class, with the monitor that the parcel has for it, not fixed
abbrev pub object_in : ClassNo → List MonitorPart → ObjectPart → Thing
object_in class monitors part = object_thing part.number (object_of class part (monitor_in monitors part.number))

-- Each object and each activation stands there by just the values that are spelled, and all else is as it was: other owners and their
-- words, constants, references and texts, and beside these the texts that are spelled.
pub record Unpacked (table : ClassTable) (tables : List OperationTable) (x : Contents) (s s' : Store) : Type 0 where
  pub objects : (part : ObjectPart) (class : ClassNo) → Has x.objects part → class_of table part.class ≡ Some class →
      Shown s' (Object part.number) (object_in class x.monitors part)
  pub activations : (part : ActivationPart) (t : OperationTable) (e : StopEntry) → Has x.activations part → IsStopOf tables part t e →
      Shown s' (Frame part.process part.depth) (frame_in t e part)
  pub others : (key : Key) → (Has (keys_of x) key → ⊥) → KeptRow s s' key
  pub grown : Grown s s'
  pub tidy : Tidy s'
  pub blocks : s'.free + blocks_in table x ≡ s.free
  pub texts : GetsTexts (λ text. Has (values_in x) (Str text)) s s'

-- a parcel without its activations
abbrev pub objects_alone : Contents → Contents
objects_alone x = record { objects = x.objects; monitors = x.monitors; activations = [] }

-- activations and nothing else
abbrev pub activations_alone : List ActivationPart → Contents
activations_alone parts = record { objects = []; monitors = []; activations = parts }

-- ---- on the nodes of a cluster

-- Contents have come to the node of a number, by the tables of its kind; the whereabouts of objects and all other nodes are as they were.
pub record UnpackedAt (table : ClassTable) (c c' : Cluster) (k : ℕ) (x : Contents) : Type 0 where
  pub parts : c'.parts ≡ c.parts
  pub images : c'.images ≡ c.images
  pub whereabouts : c'.whereabouts ≡ c.whereabouts
  pub nodes : length c'.nodes ≡ length c.nodes
  pub old : Store
  pub new : Store
  pub at : NodePut (stores c) (stores c') k old new
  pub unpacked : Unpacked table (tables_on c old.kind) x old new

-- The bytes can be unpacked at the node of a number.
pub record CanUnpackAt (table : ClassTable) (c : Cluster) (k : ℕ) (bytes : List ℕ) : Type 0 where
  pub store : Store
  pub there : stores c k ≡ Some store
  pub can : CanUnpack table (tables_on c store.kind) store bytes
