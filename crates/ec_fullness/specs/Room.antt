-- The room for which the two steps of an action ask.
use Rattle.std.specs.Prelude.{◌≡◌, ◌<◌, ℕ, suc, List, length, Option, Some, None, replicate, slice_get}
use Rattle.ec_base.specs.Stack.{top_of}
use Rattle.ec_cluster.specs.Cluster.{place, stores}
use Rattle.ec_cluster.specs.Steps.{HasRoomAt}
use Rattle.ec_cluster.specs.declared.cluster.Cluster.{Cluster}
use Rattle.ec_cluster.specs.Frames.{HasRoomFor, tables_on}
use Rattle.ec_code.specs.declared.activation.CodeActivation.{CodeActivation}
use Rattle.ec_objects.specs.Lacks.{HasRoomForAll}
use Rattle.ec_node_frames.specs.Beginning.{first_values}
use Rattle.ec_node_frames.specs.Frames.{RestsAt}
use Rattle.ec_world.specs.Things.{class_blocks}
use Rattle.ec_objects.specs.Values.{HasRoom, TextsFit}
use Rattle.ec_generate.specs.declared.table.OperationTable.{OperationTable}
use Rattle.ec_generate.specs.declared.table.StopEntry.{StopEntry}
use Rattle.ec_things.specs.Store.{Store}
use Rattle.ec_world.specs.Objects.{class_at, element_kind}
use Rattle.ec_world.specs.Values.{default_of, new_fields}
use Rattle.ec_world.specs.declared.class.ClassNo.{ClassNo}
use Rattle.ec_world.specs.declared.class.ClassNo.TheVariants.{Vector}
use Rattle.ec_world.specs.declared.class.ClassRec.{ClassRec}
use Rattle.ec_world.specs.declared.doing.Doing.{Doing}
use Rattle.ec_world.specs.declared.doing.Doing.TheVariants.{Passes, Prints, Defines, Stores, Makes, MakesVector, Invokes, Returns}
use Rattle.ec_world.specs.declared.doing.Doing.TheVariants.{Moves, Unfixes, Enters, Waits, Signals, Finishes, Breaks}
use Rattle.ec_world.specs.declared.stop.Who.{Who}
use Rattle.ec_world.specs.declared.value.Value.{Value}

-- the node of an object has so many blocks free, and room for the texts of these values
abbrev pub HasRoomWith : Cluster → ℕ → ℕ → List Value → Type 0
HasRoomWith c oid blocks values = (k : ℕ) (s : Store) → place c oid ≡ Some k → stores c k ≡ Some s → HasRoomForAll s blocks values

-- an activation takes what the stop gives at which it rests
abbrev pub HasRoomToTake : Cluster → CodeActivation → Option Value → Type 0
HasRoomToTake c a given = (e : StopEntry) → RestsAt c.parts a e → HasRoomFor c a.own e given

-- so does the activation on top of these, if there is one
abbrev pub HasRoomBelow : Cluster → Option CodeActivation → Option Value → Type 0
HasRoomBelow c None given = Unit {0}
HasRoomBelow c (Some a) given = HasRoomToTake c a given

-- a new object with these fields, and an activation on it
abbrev pub HasRoomToMake : Cluster → ℕ → ClassNo → List Value → Option ClassRec → Type 0
HasRoomToMake c maker class given None = Unit {0}
HasRoomToMake c maker class given (Some k) =
    let fields : List Value = new_fields given k.fields in HasRoomWith c maker (suc (class_blocks class (length fields))) fields

-- a new vector
abbrev pub HasRoomForVector : Cluster → ℕ → ClassNo → List Value → Type 0
HasRoomForVector c maker class elements = HasRoomWith c maker (class_blocks class (length elements)) elements

-- a new activation
pub record HasRoomToBegin (c : Cluster) (operation own : ℕ) (arguments : List Value) : Type 0 where
  pub block : (k : ℕ) (s : Store) → place c own ≡ Some k → stores c k ≡ Some s → 0 < s.free
  pub texts : (k : ℕ) (s : Store) (table : OperationTable) → place c own ≡ Some k → stores c k ≡ Some s →
      slice_get (tables_on c s.kind) operation ≡ Some table → TextsFit s (first_values table own arguments)

-- What an action asks for on nodes by what it comes to, of an activation on top of these.
abbrev pub RoomFor : Cluster → List CodeActivation → CodeActivation → Who → Doing → Type 0
RoomFor c below top who (Passes given) = HasRoomToTake c top given
RoomFor c below top who (Prints text) = Unit {0}
RoomFor c below top who (Defines index v) = (k : ℕ) (s : Store) → stores c k ≡ Some s → HasRoom s v
RoomFor c below top who (Stores oid i v) = HasRoomAt c oid v
RoomFor c below top who (Makes class given) = HasRoomToMake c who.own class given (class_at c.parts.classes class)
RoomFor c below top who (MakesVector of n) = HasRoomForVector c who.own (Vector of) (replicate n (default_of (element_kind of)))
RoomFor c below top who (Invokes op own args) = HasRoomToBegin c op own args
RoomFor c below top who (Returns given leaves section) = HasRoomBelow c (top_of below) given
RoomFor c below top who (Moves members to fixes) = ⊥
RoomFor c below top who (Unfixes x) = Unit {0}
RoomFor c below top who Enters = Unit {0}
RoomFor c below top who (Waits condition) = Unit {0}
RoomFor c below top who (Signals condition) = Unit {0}
RoomFor c below top who Finishes = Unit {0}
RoomFor c below top who (Breaks why line) = Unit {0}
