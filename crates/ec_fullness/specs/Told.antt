-- What is told of the room at nodes for blocks and values that come.
use Rattle.std.specs.Prelude.{◌≡◌, ◌<◌, ℕ, suc, List, [], ◌∷◌, length, Option, Some, None}
use Rattle.ec_cluster.specs.Cluster.{CodeWorld, place, stores}
use Rattle.ec_cluster.specs.declared.cluster.Cluster.{Cluster}
use Rattle.ec_code.specs.Typing.{Declared}
use Rattle.ec_code.specs.declared.activation.CodeActivation.{CodeActivation}
use Rattle.ec_code.specs.declared.code.Live.{Live}
use Rattle.ec_fullness.specs.Room.{HasRoomWith}
use Rattle.ec_objects.specs.Lacks.{HasRoomForAll, LacksRoom}
use Rattle.ec_node_frames.specs.Frames.{RestsAt}
use Rattle.ec_world.specs.Things.{class_blocks}
use Rattle.ec_world.specs.declared.room.Lack.{Lack}
use Rattle.ec_generate.specs.declared.table.StopEntry.{StopEntry}
use Rattle.ec_cluster.specs.Acting.{Asks}
use Rattle.ec_cluster.specs.Systems.{Runs}
use Rattle.ec_cluster.specs.declared.system.System.{System}
use Rattle.ec_things.specs.Store.{Store}
use Rattle.ec_world.specs.Values.{new_fields}
use Rattle.ec_world.specs.declared.class.ClassNo.{ClassNo}
use Rattle.ec_world.specs.declared.class.ClassRec.{ClassRec}
use Rattle.ec_world.specs.declared.doing.Doing.{Doing}
use Rattle.ec_world.specs.declared.stop.Who.{Who}
use Rattle.ec_world.specs.declared.value.Value.{Value}

-- the value that comes to an activation, where the stop has a variable for what is given
abbrev pub taken : Option Live → Option Value → List Value
taken None given = []
taken (Some l) None = []
taken (Some l) (Some v) = v ∷ []

-- the node of an object lacks room for so many blocks and these values
pub record LacksAt (c : Cluster) (oid blocks : ℕ) (values : List Value) (lack : Lack) : Type 0 where
  pub store : Store
  pub at : place c oid ≡ Some lack.node
  pub there : stores c lack.node ≡ Some store
  pub lacks : LacksRoom store lack.node blocks values lack

-- what is told of the node of an object
abbrev pub Tells : Cluster → ℕ → ℕ → List Value → Option Lack → Type 0
Tells c oid blocks values None = HasRoomWith c oid blocks values
Tells c oid blocks values (Some lack) = LacksAt c oid blocks values lack

-- what is told of an activation, if there is one, for what the stop gives at which it rests
abbrev pub TellsOfOne : Cluster → Option CodeActivation → Option Value → Option Lack → Type 0
TellsOfOne c None given r = r ≡ None
TellsOfOne c (Some a) given r = (e : StopEntry) → RestsAt c.parts a e → Tells c a.own 0 (taken e.result given) r

-- What is told of a maker for a new object of a class, with what its creation gives, and an activation on it; nothing without a class.
abbrev pub TellsOfMaking : Cluster → ℕ → ClassNo → List Value → Option ClassRec → Option Lack → Type 0
TellsOfMaking c maker class given None r = r ≡ None
TellsOfMaking c maker class given (Some k) r =
    let fields : List Value = new_fields given k.fields in Tells c maker (suc (class_blocks class (length fields))) fields r

-- nodes run some world, in which an activation's action comes to something
pub record ActsInAny (s : System) (who : Who) : Type 0 where
  pub declared : Declared
  pub world : CodeWorld
  pub below : List CodeActivation
  pub top : CodeActivation
  pub doing : Doing
  pub runs : Runs declared s world
  pub asks : Asks world below top who doing

-- each of the first so many nodes has room for these values
abbrev pub HaveRoomBefore : Cluster → List Value → ℕ → Type 0
HaveRoomBefore c values count = (k : ℕ) (s : Store) → k < count → stores c k ≡ Some s → HasRoomForAll s 0 values

-- a node lacks room for these values, and each one of a smaller number has it
pub record LacksFirst (c : Cluster) (values : List Value) (lack : Lack) : Type 0 where
  pub store : Store
  pub there : stores c lack.node ≡ Some store
  pub lacks : LacksRoom store lack.node 0 values lack
  pub before : HaveRoomBefore c values lack.node

-- what is told of all nodes
abbrev pub TellsOfAll : Cluster → List Value → Option Lack → Type 0
TellsOfAll c values None = (k : ℕ) (s : Store) → stores c k ≡ Some s → HasRoomForAll s 0 values
TellsOfAll c values (Some lack) = LacksFirst c values lack
