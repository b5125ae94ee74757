-- What a step on the nodes leaves as it was, and what it asks for.
use Rattle.std.specs.Prelude.{◌≡◌, ℕ, ◌<◌, ◌*◌, List, Option, Some, IsSome, length}
use Rattle.ec_cluster.specs.Cluster.{CodeWorld, Shows, place, stores}
use Rattle.ec_cluster.specs.declared.cluster.Cluster.{Cluster}
use Rattle.ec_monitors.specs.declared.record.MonitorRec.{MonitorRec}
use Rattle.ec_world.specs.declared.key.Key.{Key}
use Rattle.ec_world.specs.declared.key.Key.TheVariants.{Object}
use Rattle.ec_objects.specs.Values.{HasRoom}
use Rattle.ec_things.specs.Store.{Owned, Store}
use Rattle.ec_things.specs.Texts.{GetsTexts}
use Rattle.ec_world.specs.Outcomes.{monitor_of, with_monitor}
use Rattle.ec_world.specs.declared.common.Common.{Common}
use Rattle.ec_world.specs.declared.value.Value.{Value}
use Rattle.ec_world.specs.declared.value.Value.TheVariants.{Str}

-- Each node has the texts that it had and those that were added there. What the nodes run and how many instructions each has run are as
-- they were.
pub record Changes (Added : ℕ → List ℕ → Type 0) (c c' : Cluster) : Type 0 where
  pub parts : c'.parts ≡ c.parts
  pub images : c'.images ≡ c.images
  pub nodes : length c'.nodes ≡ length c.nodes
  pub each : (k : ℕ) (s : Store) → stores c k ≡ Some s → (s' : Store) × (stores c' k ≡ Some s') × GetsTexts (Added k) s s'

-- no text at any node
abbrev pub Nothing : ℕ → List ℕ → Type 0
Nothing k text = ⊥

-- these texts at the node of an object alone
abbrev pub WhereIs : Cluster → ℕ → (List ℕ → Type 0) → ℕ → List ℕ → Type 0
WhereIs c oid Added k text = (place c oid ≡ Some k) × Added text

-- an object has a place
abbrev pub HasPlace : Cluster → ℕ → Type 0
HasPlace c oid = (k : ℕ) × (place c oid ≡ Some k)

-- the node of a number keeps an owner
pub record KeptAt (c : Cluster) (key : Key) (k : ℕ) : Type 0 where
  pub store : Store
  pub there : stores c k ≡ Some store
  pub row : IsSome (store.row key)

-- an object is at its place
pub record HasObject (c : Cluster) (oid : ℕ) : Type 0 where
  pub node : ℕ
  pub at : place c oid ≡ Some node
  pub kept : KeptAt c (Object oid) node

-- an object is there, and has a field or an element of this number
pub record HasField (c : Cluster) (oid i : ℕ) : Type 0 where
  pub node : ℕ
  pub at : place c oid ≡ Some node
  pub store : Store
  pub there : stores c node ≡ Some store
  pub row : Owned
  pub is : store.row (Object oid) ≡ Some row
  pub within : i < row.size
  pub word : i < 128 * length row.blocks

-- where an object is, the text of a value has room, or is there already
abbrev pub HasRoomAt : Cluster → ℕ → Value → Type 0
HasRoomAt c oid v = (k : ℕ) (s : Store) → place c oid ≡ Some k → stores c k ≡ Some s → HasRoom s v

-- each node has a constant of this number, and room for the text of a value
abbrev pub CanDefine : Cluster → ℕ → Value → Type 0
CanDefine c i v = (k : ℕ) (s : Store) → stores c k ≡ Some s → IsSome (s.global i) × HasRoom s v

-- a value with its text at each node
abbrev pub Everywhere : Value → ℕ → List ℕ → Type 0
Everywhere v k text = v ≡ Str text

-- the same world with another common part
abbrev pub with_common : CodeWorld → Common → CodeWorld
with_common w c = record w { common = c }

-- An act on the monitor of an object answers this: the object of the world that was shown had a monitor, and the nodes show it with what
-- the act leaves.
pub record MonitorActs {A : Type 0} (c' : Cluster) (w : CodeWorld) (oid : ℕ) (act : MonitorRec → MonitorRec × A) (answer : A) :
    Type 0 where
  pub before : MonitorRec
  pub had : monitor_of w.common oid ≡ Some before
  pub answers : (act before).1 ≡ answer
  pub shown : Shows c' (with_common w (with_monitor w.common oid (act before).0))

-- what an act on the monitor of an object asks of the node where the object is
abbrev pub MonitorThere : Cluster → ℕ → (Store → Type 0) → Type 0
MonitorThere c oid Asked = (k : ℕ) (s : Store) → place c oid ≡ Some k → stores c k ≡ Some s → Asked s
