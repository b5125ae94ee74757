-- The room that both steps of an action want on nodes.
use Rattle.std.specs.Prelude.{◌≡◌, ◌≤◌, ◌<◌, ℕ, List, length, Option, Some, replicate, slice_get}
use Rattle.ec_base.specs.Stack.{top_of}
use Rattle.ec_cluster.specs.Cluster.{place, stores}
use Rattle.ec_cluster.specs.Steps.{HasRoomAt}
use Rattle.ec_cluster.specs.declared.cluster.Cluster.{Cluster}
use Rattle.ec_cluster.specs.Frames.{HasRoomFor, tables_on}
use Rattle.ec_code.specs.declared.activation.CodeActivation.{CodeActivation}
use Rattle.ec_node_frames.specs.Beginning.{first_values}
use Rattle.ec_node_frames.specs.Frames.{RestsAt}
use Rattle.ec_world.specs.Things.{class_blocks}
use Rattle.ec_objects.specs.Values.{HasRoom, TextsFit}
use Rattle.ec_generate.specs.declared.table.OperationTable.{OperationTable}
use Rattle.ec_generate.specs.declared.table.StopEntry.{StopEntry}
use Rattle.ec_cluster.specs.SystemSteps.{ByClass}
use Rattle.ec_things.specs.Store.{Store}
use Rattle.ec_world.specs.Objects.{class_at, element_kind}
use Rattle.ec_world.specs.Values.{default_of, new_fields}
use Rattle.ec_world.specs.declared.class.ClassNo.{ClassNo}
use Rattle.ec_world.specs.declared.class.ClassNo.TheVariants.{Vector}
use Rattle.ec_world.specs.declared.doing.Doing.{Doing}
use Rattle.ec_world.specs.declared.doing.Doing.TheVariants.{Defines, Makes, MakesVector, Moves, Stores}
use Rattle.ec_world.specs.declared.stop.Effect.{Effect}
use Rattle.ec_world.specs.declared.stop.Effect.TheVariants.{GoesOn, Calls, Leaves}
use Rattle.ec_world.specs.declared.stop.Who.{Who}
use Rattle.ec_world.specs.declared.value.Value.{Value}

-- the maker's node has blocks for an object of a class with these fields, and room for their texts
pub record RoomToMake (c : Cluster) (maker : ℕ) (class : ClassNo) (fields : List Value) : Type 0 where
  pub blocks : (k : ℕ) (s : Store) → place c maker ≡ Some k → stores c k ≡ Some s → class_blocks class (length fields) ≤ s.free
  pub texts : (k : ℕ) (s : Store) → place c maker ≡ Some k → stores c k ≡ Some s → TextsFit s fields

-- What the first step wants. Moves are another matter.
abbrev pub RoomToDo : Cluster → Who → Doing → Type 0
RoomToDo c who (Defines index v) = (k : ℕ) (s : Store) → stores c k ≡ Some s → HasRoom s v
RoomToDo c who (Stores oid i v) = HasRoomAt c oid v
RoomToDo c who (Makes class given) =
    ByClass (class_at c.parts.classes class) (λ k. RoomToMake c who.own class (new_fields given k.fields))
RoomToDo c who (MakesVector of n) = RoomToMake c who.own (Vector of) (replicate n (default_of (element_kind of)))
RoomToDo c who (Moves members to fixes) = ⊥
RoomToDo c who _ = Unit {0}

-- where an activation is there is room for what it is given
abbrev pub RoomToTake : Cluster → CodeActivation → Option Value → Type 0
RoomToTake c a given = (e : StopEntry) → RestsAt c.parts a e → HasRoomFor c a.own e given

-- the node of an object has a block for an activation of an operation, and room for the texts of what this holds
pub record RoomToBegin (c : Cluster) (operation own : ℕ) (arguments : List Value) : Type 0 where
  pub block : (k : ℕ) (s : Store) → place c own ≡ Some k → stores c k ≡ Some s → 0 < s.free
  pub texts : (k : ℕ) (s : Store) (table : OperationTable) → place c own ≡ Some k → stores c k ≡ Some s →
      slice_get (tables_on c s.kind) operation ≡ Some table → TextsFit s (first_values table own arguments)

-- what the second step wants
abbrev pub RoomToSettle : Cluster → List CodeActivation → CodeActivation → Effect → Type 0
RoomToSettle c below top (GoesOn given) = RoomToTake c top given
RoomToSettle c below top (Calls op own args) = RoomToBegin c op own args
RoomToSettle c below top (Leaves given) = (a : CodeActivation) → top_of below ≡ Some a → RoomToTake c a given
RoomToSettle c below top _ = Unit {0}
