-- What an action needs of each node for the world that it leaves, and when a node lacks it.
use Rattle.std.specs.Prelude.{◌≡◌, ◌-◌, ◌<◌, ◌==◌, ℕ, suc, if◌then◌else◌, List, Option, Some}
use Rattle.ec_cluster.specs.Cluster.{CodeWorld, frame_of, place, stores}
use Rattle.ec_cluster.specs.declared.cluster.Cluster.{Cluster}
use Rattle.ec_code.specs.Typing.{Declared}
use Rattle.ec_code.specs.declared.activation.CodeActivation.{CodeActivation}
use Rattle.ec_cluster.specs.Whereabouts.{made_count}
use Rattle.ec_world.specs.Held.{Fits, Lacks}
use Rattle.ec_world.specs.declared.room.Needs.{Needs}
use Rattle.ec_world.specs.declared.room.Part.{Part}
use Rattle.ec_cluster.specs.Acting.{Asks}
use Rattle.ec_cluster.specs.Systems.{Runs}
use Rattle.ec_cluster.specs.declared.system.System.{System}
use Rattle.ec_things.specs.Held.{Held}
use Rattle.ec_things.specs.Store.{Store}
use Rattle.ec_things.specs.Texts.{NewBytes, TextsHeld}
use Rattle.ec_things.specs.Things.{things_of}
use Rattle.ec_world.specs.Group.{is_in}
use Rattle.ec_world.specs.declared.doing.Doing.{Doing}
use Rattle.ec_world.specs.declared.doing.Doing.TheVariants.{Passes, Prints, Defines, Stores, Makes, MakesVector, Invokes, Returns}
use Rattle.ec_world.specs.declared.doing.Doing.TheVariants.{Moves, Unfixes, Enters, Waits, Signals, Finishes, Breaks}
use Rattle.ec_world.specs.declared.stop.Who.{Who}

-- ---- the action

-- no object goes to another node
abbrev pub StaysPut : Doing → Type 0
StaysPut (Passes given) = Unit {0}
StaysPut (Prints text) = Unit {0}
StaysPut (Defines index v) = Unit {0}
StaysPut (Stores oid i v) = Unit {0}
StaysPut (Makes class given) = Unit {0}
StaysPut (MakesVector of n) = Unit {0}
StaysPut (Invokes op own args) = Unit {0}
StaysPut (Returns given leaves section) = Unit {0}
StaysPut (Moves members to fixes) = ⊥
StaysPut (Unfixes x) = Unit {0}
StaysPut Enters = Unit {0}
StaysPut (Waits condition) = Unit {0}
StaysPut (Signals condition) = Unit {0}
StaysPut Finishes = Unit {0}
StaysPut (Breaks why line) = Unit {0}

-- Nodes run some world, in which the action of an activation comes to this, and no object goes to another node.
pub record ActsInSome (s : System) (who : Who) (doing : Doing) : Type 0 where
  pub declared : Declared
  pub world : CodeWorld
  pub below : List CodeActivation
  pub top : CodeActivation
  pub runs : Runs declared s world
  pub asks : Asks world below top who doing
  pub stays : StaysPut doing

-- ---- what is needed

-- Where objects are once an action has made one: the new one is where its maker is.
abbrev pub place_then : Cluster → ℕ → ℕ → Option ℕ
place_then c maker oid = if oid == suc (made_count c.whereabouts) then place c maker else place c oid

-- where objects are once a group has gone to a node
abbrev pub gathered : (ℕ → Option ℕ) → List ℕ → ℕ → ℕ → Option ℕ
gathered place members to oid = if is_in oid members then Some to else place oid

-- the texts that a world has at a node, with objects at these places: in objects and activations there, and in constants
abbrev pub Wants : Cluster → (ℕ → Option ℕ) → CodeWorld → ℕ → List ℕ → Type 0
Wants c places w = TextsHeld (things_of (frame_of c) w) w.common.globals places

-- What node k, which keeps s, needs for world w', with objects at these places, to come after w: the blocks by which those held there rise,
-- and the bytes of the texts that w' has there and the node lacks.
pub record NeedsAt (c : Cluster) (w w' : CodeWorld) (places : ℕ → Option ℕ) (k : ℕ) (s : Store) (n : Needs) : Type 0 where
  pub blocks : n.blocks ≡ Held (frame_of c) places k w' - Held (frame_of c) (place c) k w
  pub bytes : NewBytes (Wants c places w' k) s n.bytes
  pub free_blocks : n.free_blocks ≡ s.free
  pub free_bytes : n.free_bytes ≡ s.text_free

-- the node has room for what it needs
pub record FitsAt (c : Cluster) (w w' : CodeWorld) (places : ℕ → Option ℕ) (k : ℕ) (s : Store) : Type 0 where
  pub needs : Needs
  pub are : NeedsAt c w w' places k s needs
  pub fits : Fits needs

-- A node lacks a part of what it needs, and each node of a smaller number has room.
pub record IsFull (c : Cluster) (w w' : CodeWorld) (places : ℕ → Option ℕ) (node : ℕ) (part : Part) (need free : ℕ) : Type 0 where
  pub store : Store
  pub there : stores c node ≡ Some store
  pub needs : Needs
  pub are : NeedsAt c w w' places node store needs
  pub lacks : Lacks part needs need free
  pub first : (k : ℕ) (s : Store) → k < node → stores c k ≡ Some s → FitsAt c w w' places k s

-- each node has room for what it needs
abbrev pub EachFits : Cluster → CodeWorld → CodeWorld → (ℕ → Option ℕ) → Type 0
EachFits c w w' places = (k : ℕ) (s : Store) → stores c k ≡ Some s → FitsAt c w w' places k s
