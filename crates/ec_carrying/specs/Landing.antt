-- What comes to a node from a parcel.
use Rattle.std.specs.Prelude.{◌≡◌, ℕ, ◌*◌, ◌^◌, ◌<◌, ◌≤◌, ◌==◌, if◌then◌else◌, List, [], ◌∷◌, length, Option, Some, None}
use Rattle.ec_cluster.specs.Cluster.{CodeWorld, place}
use Rattle.ec_cluster.specs.declared.cluster.Cluster.{Cluster}
use Rattle.ec_code.specs.declared.activation.CodeActivation.{CodeActivation}
use Rattle.ec_node_frames.specs.Carried.{IsCarried}
use Rattle.ec_monitors.specs.declared.record.MonitorRec.{MonitorRec}
use Rattle.ec_parcels.specs.Activations.{activation_part_of}
use Rattle.ec_parcels.specs.Classes.{ClassTable, class_of}
use Rattle.ec_parcels.specs.Objects.{object_of}
use Rattle.ec_world.specs.Things.{activation_at, class_blocks}
use Rattle.ec_generate.specs.declared.table.StopEntry.{StopEntry}
use Rattle.ec_wire.specs.declared.parcel.ActivationPart.{ActivationPart}
use Rattle.ec_wire.specs.declared.parcel.Contents.{Contents}
use Rattle.ec_wire.specs.declared.parcel.MonitorPart.{MonitorPart}
use Rattle.ec_wire.specs.declared.parcel.ObjectPart.{ObjectPart}
use Rattle.ec_world.specs.Group.{Has}
use Rattle.ec_world.specs.Objects.{object_at}
use Rattle.ec_world.specs.declared.class.ClassNo.{ClassNo}
use Rattle.ec_world.specs.declared.value.Value.{Value}
use Rattle.ec_world.specs.declared.value.Value.TheVariants.{Str}

-- the texts of some values at a node
abbrev pub TextsAt : ℕ → List Value → ℕ → List ℕ → Type 0
TextsAt k values j text = (j ≡ k) × Has values (Str text)

-- ---- objects

-- the monitor of an object among these: the first one of its number
abbrev pub monitor_in : List MonitorPart → ℕ → Option MonitorRec
monitor_in [] oid = None
monitor_in (m ∷ ms) oid = if m.object == oid then Some m.monitor else monitor_in ms oid

-- an object's part has the number of a class, and no more values than the object has words
pub record IsClassed (table : ClassTable) (part : ObjectPart) : Type 0 where
  pub class : ClassNo
  pub is : class_of table part.class ≡ Some class
  pub few : length part.values ≤ 128 * class_blocks class (length part.values)
  pub small : length part.values < 2 ^ 32

abbrev pub AreClassed : ClassTable → List ObjectPart → Type 0
AreClassed table objects = (part : ObjectPart) → Has objects part → IsClassed table part

-- an object that comes from a part is the one of a world, at a node
pub record ComesAs (table : ClassTable) (c : Cluster) (w : CodeWorld) (k : ℕ) (monitors : List MonitorPart) (part : ObjectPart) :
    Type 0 where
  pub class : ClassNo
  pub is_class : class_of table part.class ≡ Some class
  pub is : object_at w.common.objects part.number ≡ Some (object_of class part (monitor_in monitors part.number))
  pub at : place c part.number ≡ Some k

-- each of the objects in a parcel
abbrev pub EachComesAs : ClassTable → Cluster → CodeWorld → ℕ → Contents → Type 0
EachComesAs table c w k x = (part : ObjectPart) → Has x.objects part → ComesAs table c w k x.monitors part

-- ---- activations

-- a part is of an activation that rests at a stop from which it can go
pub record IsPartOf (c : Cluster) (part : ActivationPart) (a : CodeActivation) (e : StopEntry) : Type 0 where
  pub carried : IsCarried c.parts a e
  pub is : part ≡ activation_part_of part.process part.depth c.parts a e

-- the activation that comes from a part is the one of a world, and its place is a node
pub record ArrivesAs (c : Cluster) (w : CodeWorld) (k : ℕ) (part : ActivationPart) : Type 0 where
  pub activation : CodeActivation
  pub entry : StopEntry
  pub part_is : IsPartOf c part activation entry
  pub is : activation_at w.processes part.process part.depth ≡ Some activation
  pub at : place c activation.own ≡ Some k

-- each of the activations in a parcel
abbrev pub EachArrivesAs : Cluster → CodeWorld → ℕ → List ActivationPart → Type 0
EachArrivesAs c w k activations = (part : ActivationPart) → Has activations part → ArrivesAs c w k part
