-- What goes of an object that a node shows, and what comes of it.
use Rattle.std.specs.Prelude.{◌≡◌, ◌*◌, ◌<◌, ℕ, false, List, length, Option, Some, None, slice_get}
use Rattle.ec_monitors.specs.declared.record.MonitorRec.{MonitorRec}
use Rattle.ec_parcels.specs.Classes.{ClassTable, number_of}
use Rattle.ec_world.specs.declared.key.Key.TheVariants.{Object}
use Rattle.ec_cluster.specs.Kinds.{IsOfKindAt}
use Rattle.ec_things.specs.Store.{Owned, StandsAt, Store}
use Rattle.ec_things.specs.Things.{Shown, object_thing}
use Rattle.ec_wire.specs.declared.parcel.MonitorPart.{MonitorPart}
use Rattle.ec_wire.specs.declared.parcel.ObjectPart.{ObjectPart}
use Rattle.ec_world.specs.declared.class.ClassNo.{ClassNo}
use Rattle.ec_world.specs.declared.class.ClassRec.{ClassRec}
use Rattle.ec_world.specs.declared.object.ObjectRec.{ObjectRec}
use Rattle.ec_world.specs.declared.value.Value.{Value}

-- ---- what goes

-- A node shows an object, each of whose fields is of the kind of its class's field, and whose class has this number.
pub record GoesAs (table : ClassTable) (classes : List ClassRec) (s : Store) (oid : ℕ) (o : ObjectRec) (number : ℕ) : Type 0 where
  pub shown : Shown s (Object oid) (object_thing oid o)
  pub kinds : (i : ℕ) (v : Value) → slice_get o.fields i ≡ Some v → IsOfKindAt classes o.class i v
  pub number_is : number_of table o.class ≡ Some number

-- there is such an object
pub record CanGo (table : ClassTable) (classes : List ClassRec) (s : Store) (oid : ℕ) : Type 0 where
  pub object : ObjectRec
  pub number : ℕ
  pub goes : GoesAs table classes s oid object number

abbrev pub part_of : ℕ → ℕ → ObjectRec → ObjectPart
part_of oid number o = record { number = oid; class = number; values = o.fields }

-- the part of a monitor, where an object has one
abbrev pub monitor_part_of : ℕ → Option MonitorRec → Option MonitorPart
monitor_part_of oid None = None
monitor_part_of oid (Some m) = Some (record { object = oid; monitor = m })

-- ---- what comes

-- the object of a class that a part brings; it isn't fixed at the node to which it comes
abbrev pub object_of : ClassNo → ObjectPart → Option MonitorRec → ObjectRec
object_of class part monitor = record { class = class; fields = part.values; fixed = false; monitor = monitor }

-- ---- how fields are read

-- word i of an object of a class stands for a value, of the kind of its field
pub record FieldReads (classes : List ClassRec) (s : Store) (oid : ℕ) (class : ClassNo) (i : ℕ) (v : Value) : Type 0 where
  pub row : Owned
  pub there : s.row (Object oid) ≡ Some row
  pub within : i < 128 * length row.blocks
  pub stands : StandsAt s row.blocks i v
  pub of_kind : IsOfKindAt classes class i v

-- there is such a value
pub record HasField (classes : List ClassRec) (s : Store) (oid : ℕ) (class : ClassNo) (i : ℕ) : Type 0 where
  pub value : Value
  pub reads : FieldReads classes s oid class i value

-- each of so many fields has a value
abbrev pub HasFields : List ClassRec → Store → ℕ → ClassNo → ℕ → Type 0
HasFields classes s oid class size = (i : ℕ) → i < size → HasField classes s oid class i

-- these are the values of so many fields
pub record AreFields (classes : List ClassRec) (s : Store) (oid : ℕ) (class : ClassNo) (size : ℕ) (values : List Value) : Type 0 where
  pub many : length values ≡ size
  pub each : (i : ℕ) (v : Value) → slice_get values i ≡ Some v → FieldReads classes s oid class i v
