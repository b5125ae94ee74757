-- What holds of room at nodes that show a world.
use Rattle.std.specs.Prelude.{◌≡◌, ◌⊎◌, ℕ, List, length, Some, slice_get}
use Rattle.ec_cluster.specs.Cluster.{CodeWorld}
use Rattle.ec_cluster.specs.Steps.{Changes}
use Rattle.ec_cluster.specs.declared.cluster.Images.{Images}
use Rattle.ec_code.specs.Typing.{Declared}
use Rattle.ec_code.specs.declared.code.Parts.{Parts}
use Rattle.ec_acts.specs.Loaded.{Loaded}
use Rattle.ec_acts.specs.Loading.{CanLoad, LacksFirst, first_needs}
use Rattle.ec_world.specs.declared.room.Lack.{Lack}
use Rattle.ec_world.specs.declared.room.Part.{Part}
use Rattle.ec_rooms.specs.Full.{FindsFull}
use Rattle.ec_rooms.specs.Places.{HasPlaces}
use Rattle.ec_rooms.specs.Rooms.{FullAt, Literals, LoadFull, Strings, held}
use Rattle.ec_rooms.specs.Runs.{NextFull, PoolAfter}
use Rattle.ec_rooms.specs.Standing.{HavePools, HaveSizes, ShowsWith}
use Rattle.ec_code.specs.Sound.{SoundWorld}
use Rattle.ec_cluster.specs.Systems.{Mirrors, Runs, Strings as Shown}
use Rattle.ec_cluster.specs.declared.system.System.{System}
use Rattle.ec_world.specs.declared.node.NodeSpec.{NodeSpec}
use Rattle.ec_world.specs.declared.run.Entry.{Entry}

-- no node lacks room for what comes
abbrev pub HasRoomFor : Parts → List NodeSpec → CodeWorld → CodeWorld → (ℕ → List ℕ → Type 0) → Type 0
HasRoomFor p specs w w' Pool =
    (k need free : ℕ) (part : Part) → FullAt specs (held p w) (held p w') Pool (Strings p w') k part need free → ⊥

-- ---- one answer

-- the same node lacks as much of the same
pub record SameLack (node : ℕ) (part : Part) (need free node' : ℕ) (part' : Part) (need' free' : ℕ) : Type 0 where
  pub node_is : node ≡ node'
  pub part_is : part ≡ part'
  pub need_is : need ≡ need'
  pub free_is : free ≡ free'

-- only one lack is told
abbrev pub IsOne : (ℕ → Part → ℕ → ℕ → Type 0) → Type 0
IsOne Full =
    (node node' : ℕ) (part part' : Part) (need free need' free' : ℕ) → Full node part need free → Full node' part' need' free' →
    SameLack node part need free node' part' need' free'

-- A load, and each entry of a run, finds one node at most that is the first to lack room, and that lacks one thing.
pub record FullIsOne : Type 0 where
  pub load : (p : Parts) (specs : List NodeSpec) → IsOne (LoadFull p specs)
  pub next : (p : Parts) (specs : List NodeSpec) (schedule : List Entry) (k : ℕ) → IsOne (NextFull p specs schedule k)

-- ---- the load

-- Where a load tells of a lack, it finds no room there; where it has loaded, each node has room, the sizes are those of the nodes, and the
-- pools have the literals.
pub record LoadsAreFull : Type 0 where
  pub full : (p : Parts) (images : Images) (specs : List NodeSpec) (lack : Lack) → CanLoad p images specs →
      LacksFirst (first_needs p images (length specs)) specs lack → LoadFull p specs lack.node lack.part lack.need lack.free
  pub fits : (p : Parts) (images : Images) (specs : List NodeSpec) (s : System) → CanLoad p images specs → Loaded p images specs s →
      (k need free : ℕ) (part : Part) → LoadFull p specs k part need free → ⊥
  pub sizes : (p : Parts) (images : Images) (specs : List NodeSpec) (s : System) → Loaded p images specs s → HaveSizes specs s.cluster
  pub pools : (p : Parts) (images : Images) (specs : List NodeSpec) (s : System) → Loaded p images specs s →
      HavePools s.cluster (Literals p)

-- ---- entries

-- what holds of the texts of pools after so many entries of each run
abbrev pub InRuns : ((ℕ → List ℕ → Type 0) → Type 0) → Type 0
InRuns Law = (p : Parts) (n : ℕ) (schedule : List Entry) (k : ℕ) → Law (PoolAfter p n schedule k)

-- Where a node is found full for a world to come, it finds no room there.
abbrev pub FoundIsFull : (ℕ → List ℕ → Type 0) → Type 0
FoundIsFull Pool =
    (d : Declared) (specs : List NodeSpec) (s : System) (w w' : CodeWorld) (lack : Lack) →
    Runs d s w → SoundWorld d s.cluster.parts w' → ShowsWith specs s w Pool → HasPlaces s.cluster w → FindsFull s.cluster w w' lack →
    FullAt specs (held s.cluster.parts w) (held s.cluster.parts w') Pool (Strings s.cluster.parts w') lack.node lack.part lack.need
    lack.free

-- Nodes have come to show another world: each object is where its events have it, and each node has the texts that it had and those of it.
pub record HaveCome (old new : System) (w' : CodeWorld) : Type 0 where
  pub mirrors : Mirrors new w'
  pub places : HasPlaces new.cluster w'
  pub texts : Changes (Shown new.cluster w') old.cluster new.cluster

-- Where nodes have come to a world, each had room; they then have the sizes that they had, and the texts that they had with those of it.
pub record HadRoom (specs : List NodeSpec) (s t : System) (w w' : CodeWorld) (Pool : ℕ → List ℕ → Type 0) : Type 0 where
  pub room : HasRoomFor s.cluster.parts specs w w' Pool
  pub sizes : HaveSizes specs t.cluster
  pub pools : HavePools t.cluster (λ k text. Pool k text ⊎ Strings s.cluster.parts w' k text)

abbrev pub StepsHadRoom : (ℕ → List ℕ → Type 0) → Type 0
StepsHadRoom Pool =
    (d : Declared) (specs : List NodeSpec) (s t : System) (w w' : CodeWorld) →
    Runs d s w → ShowsWith specs s w Pool → HasPlaces s.cluster w → HaveCome s t w' → HadRoom specs s t w w' Pool

-- Where the same nodes show a world and then another, as when nothing is to be done or the operator moves nothing, there was room for it,
-- and its texts are there.
pub record WasThere (p : Parts) (specs : List NodeSpec) (w w' : CodeWorld) (Pool : ℕ → List ℕ → Type 0) : Type 0 where
  pub room : HasRoomFor p specs w w' Pool
  pub texts : (k : ℕ) (spec : NodeSpec) (text : List ℕ) → slice_get specs k ≡ Some spec →
      Strings p w' k text → Pool k text

abbrev pub SameNodesHaveRoom : (ℕ → List ℕ → Type 0) → Type 0
SameNodesHaveRoom Pool =
    (specs : List NodeSpec) (s : System) (w w' : CodeWorld) →
    ShowsWith specs s w Pool → HasPlaces s.cluster w → ShowsWith specs s w' Pool → HasPlaces s.cluster w' →
    WasThere s.cluster.parts specs w w' Pool
