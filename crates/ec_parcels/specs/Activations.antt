-- What goes of an activation that a node shows, and what comes of it.
use Rattle.std.specs.Prelude.{◌≡◌, ℕ, List, length, Some, slice_get}
use Rattle.ec_activations.specs.Frames.{frame_thing, number_if, stop_of, value_in}
use Rattle.ec_node_frames.specs.Carried.{IsCarried, carried, values_carried}
use Rattle.ec_code.specs.Typing.{Declared, kind_of}
use Rattle.ec_code.specs.declared.activation.CodeActivation.{CodeActivation}
use Rattle.ec_code.specs.declared.code.Live.{Live}
use Rattle.ec_code.specs.declared.code.Parts.{Parts}
use Rattle.ec_machine_code.specs.declared.homes.Home.{Home}
use Rattle.ec_node_frames.specs.Frames.{HasTables}
use Rattle.ec_node_frames.specs.Spelled.{HaveHomes, frame_by}
use Rattle.ec_node_frames.specs.declared.frames.Headings.{Headings}
use Rattle.ec_world.specs.declared.key.Key.TheVariants.{Frame}
use Rattle.ec_objects.specs.Kinds.{IsOfKind}
use Rattle.ec_generate.specs.declared.table.OperationTable.{OperationTable}
use Rattle.ec_generate.specs.declared.table.StopEntry.{StopEntry}
use Rattle.ec_things.specs.Store.{Store}
use Rattle.ec_things.specs.Things.{Shown, Thing}
use Rattle.ec_wire.specs.declared.parcel.ActivationPart.{ActivationPart}
use Rattle.ec_world.specs.declared.node.Kind.{Kind}

-- ---- what goes

-- A node shows an activation by the tables of its kind, which can go from the stop at which it rests; and each of its values is of the kind
-- of its variable's type.
pub record Leaves (s : Store) (tables : List OperationTable) (process depth : ℕ) (d : Declared) (p : Parts)
    (homes : Kind → List (List Home)) (a : CodeActivation) (e : StopEntry) : Type 0 where
  pub shown : Shown s (Frame process depth) (frame_thing p homes process depth a)
  pub has : HasTables d p s.kind homes tables
  pub goes : IsCarried p a e
  pub kinds : (i : ℕ) (l : Live) → slice_get (carried e a.pending) i ≡ Some l → IsOfKind (kind_of l.of) (value_in p a l.variable)

-- there is such an activation
pub record CanLeave (s : Store) (tables : List OperationTable) (process depth : ℕ) : Type 0 where
  pub declared : Declared
  pub parts : Parts
  pub homes : Kind → List (List Home)
  pub activation : CodeActivation
  pub entry : StopEntry
  pub leaves : Leaves s tables process depth declared parts homes activation entry

-- the part of an activation that rests at a stop
abbrev pub activation_part_of : ℕ → ℕ → Parts → CodeActivation → StopEntry → ActivationPart
activation_part_of process depth p a e = record {
  process = process;
  depth = depth;
  operation = a.operation;
  stop = number_if (stop_of p a);
  is_pending = a.pending;
  own = a.own;
  values = values_carried p a e a.pending;
}

-- ---- what comes

-- the headings that a part tells
abbrev pub headings_in : ActivationPart → Headings
headings_in part = record { operation = part.operation; stop = part.stop; pending = part.is_pending; own = part.own }

-- the operation of a part has a table among these, which has the stop of the part
pub record IsStopOf (tables : List OperationTable) (part : ActivationPart) (table : OperationTable) (e : StopEntry) : Type 0 where
  pub its : slice_get tables part.operation ≡ Some table
  pub stop : slice_get table.stops part.stop ≡ Some e

-- There is such a stop, and the part has a value for each variable whose value goes from there.
pub record HasStop (tables : List OperationTable) (part : ActivationPart) : Type 0 where
  pub table : OperationTable
  pub entry : StopEntry
  pub is : IsStopOf tables part table entry
  pub many : length part.values ≡ length (carried entry part.is_pending)

-- what a part at a stop is as a thing of a node, by the table of its operation alone
abbrev pub frame_in : OperationTable → StopEntry → ActivationPart → Thing
frame_in table e part = frame_by table e part.process part.depth (headings_in part) part.values

-- each variable whose value goes from a stop has a word of the frame by a table, and the part has one value for each such word
abbrev pub HasHomes : OperationTable → StopEntry → ActivationPart → Type 0
HasHomes table e part = HaveHomes table (carried e part.is_pending) part.values
