-- Activations that nodes show in a world, and what a step on one asks for.
use Rattle.std.specs.Prelude.{◌≡◌, ℕ, ◌<◌, ◌++◌, [], ◌∷◌, List, Option, Some, None, slice_get, slice_set}
use Rattle.ec_cluster.specs.Cluster.{CodeWorld, Shows, place, stores}
use Rattle.ec_cluster.specs.Images.{homes_on, image_of}
use Rattle.ec_cluster.specs.declared.cluster.Cluster.{Cluster}
use Rattle.ec_code.specs.Typing.{Declared}
use Rattle.ec_code.specs.declared.activation.CodeActivation.{CodeActivation}
use Rattle.ec_node_frames.specs.Beginning.{HasEntry, first_values}
use Rattle.ec_node_frames.specs.Finishing.{HasRoomIn}
use Rattle.ec_node_frames.specs.Frames.{HasTables, IsFrame, RestsAt}
use Rattle.ec_world.specs.declared.key.Key.TheVariants.{Frame}
use Rattle.ec_objects.specs.Values.{TextsFit}
use Rattle.ec_generate.specs.declared.table.OperationTable.{OperationTable}
use Rattle.ec_generate.specs.declared.table.StopEntry.{StopEntry}
use Rattle.ec_things.specs.Store.{Store}
use Rattle.ec_world.specs.Group.{Has}
use Rattle.ec_world.specs.declared.node.Kind.{Kind}
use Rattle.ec_world.specs.declared.process.Proc.{Proc}
use Rattle.ec_world.specs.declared.process.ProcStatus.{ProcStatus}
use Rattle.ec_world.specs.declared.value.Value.{Value}
use Rattle.ec_world.specs.declared.value.Value.TheVariants.{Str}

-- the tables of a program's operations on a kind
abbrev pub tables_on : Cluster → Kind → List OperationTable
tables_on c kind = (image_of c.images kind).table.operations

-- the images are those of the cluster's program on each kind
abbrev pub HasImages : Declared → Cluster → Type 0
HasImages d c = (kind : Kind) → HasTables d c.parts kind (homes_on c.images) (tables_on c kind)

-- a world with a process more
abbrev pub with_one_more : CodeWorld → Proc CodeActivation → CodeWorld
with_one_more w q = record w { processes = w.processes ++ q ∷ [] }

-- process p has these activations and this status
abbrev pub with_stack : CodeWorld → ℕ → List CodeActivation → ProcStatus → CodeWorld
with_stack w p activations status =
    record w { processes = slice_set w.processes p (record { activations = activations; status = status }) }

-- The nodes show a world, in which an activation of a process rests at a stop.
pub record RestsIn (d : Declared) (c : Cluster) (w : CodeWorld) (p depth : ℕ) (proc : Proc CodeActivation) (a : CodeActivation)
    (e : StopEntry) : Type 0 where
  pub images : HasImages d c
  pub shows : Shows c w
  pub is_proc : slice_get w.processes p ≡ Some proc
  pub there : slice_get proc.activations depth ≡ Some a
  pub rests : RestsAt c.parts a e

-- so it does in some world, as an activation on this object
pub record RestsOn (c : Cluster) (p depth own : ℕ) (e : StopEntry) : Type 0 where
  pub declared : Declared
  pub world : CodeWorld
  pub proc : Proc CodeActivation
  pub activation : CodeActivation
  pub rests : RestsIn declared c world p depth proc activation e
  pub owns : activation.own ≡ own

-- where an object is, the text of what is given has room
abbrev pub HasRoomFor : Cluster → ℕ → StopEntry → Option Value → Type 0
HasRoomFor c own e given = (k : ℕ) (s : Store) → place c own ≡ Some k → stores c k ≡ Some s → HasRoomIn s e.result given

-- the node where an object is
pub record HasNode (c : Cluster) (own : ℕ) : Type 0 where
  pub node : ℕ
  pub at : place c own ≡ Some node
  pub store : Store
  pub there : stores c node ≡ Some store

-- An operation can begin on an object: it has an entry, and the object's node has a block and room for the texts of the arguments.
pub record CanBegin (c : Cluster) (p depth operation own : ℕ) (arguments : List Value) : Type 0 where
  pub own_is : HasNode c own
  pub new : (k : ℕ) (s : Store) → stores c k ≡ Some s → s.row (Frame p depth) ≡ None
  pub room : (k : ℕ) (s : Store) → place c own ≡ Some k → stores c k ≡ Some s → 0 < s.free
  pub entry : (kind : Kind) → (table : OperationTable) × (slice_get (tables_on c kind) operation ≡ Some table) × HasEntry table
  pub texts : (k : ℕ) (s : Store) (table : OperationTable) → place c own ≡ Some k → stores c k ≡ Some s →
      slice_get (tables_on c s.kind) operation ≡ Some table → TextsFit s (first_values table own arguments)

-- the texts of what a new activation holds, at the node of its own object
pub record BeginsWith (c : Cluster) (operation own : ℕ) (arguments : List Value) (k : ℕ) (text : List ℕ) : Type 0 where
  pub at : place c own ≡ Some k
  pub store : Store
  pub there : stores c k ≡ Some store
  pub table : OperationTable
  pub is : slice_get (tables_on c store.kind) operation ≡ Some table
  pub has : Has (first_values table own arguments) (Str text)

-- an activation is in a frame of the node of an object
pub record FrameAt (c : Cluster) (p depth own : ℕ) : Type 0 where
  pub node : ℕ
  pub at : place c own ≡ Some node
  pub store : Store
  pub there : stores c node ≡ Some store
  pub frame : IsFrame store p depth
