-- What one step on an owner at a node leaves, and what is shown while owners travel.
use Rattle.std.specs.Prelude.{◌≡◌, ◌≢◌, ℕ, Bool, List, ◌++◌, Option, Some, length}
use Rattle.ec_cluster.specs.Cluster.{CodeWorld, frame_of, place, stores}
use Rattle.ec_cluster.specs.Steps.{Changes, KeptAt, Nothing}
use Rattle.ec_cluster.specs.declared.cluster.Cluster.{Cluster}
use Rattle.ec_world.specs.Held.{Distinct}
use Rattle.ec_world.specs.declared.key.Key.{Key}
use Rattle.ec_parcels.specs.Owners.{among}
use Rattle.ec_things.specs.Store.{Store}
use Rattle.ec_things.specs.Texts.{GetsTexts}
use Rattle.ec_things.specs.Things.{NodePut, Puts, Thing, things_of}
use Rattle.ec_things.specs.Travelling.{ShowsBut}
use Rattle.ec_world.specs.Group.{Has}

-- The nodes show a world but for what travels.
abbrev pub ShowsStaying : Cluster → (Key → Bool) → CodeWorld → Type 0
ShowsStaying c travels w = ShowsBut (frame_of c) travels (stores c) w (place c)

-- an owner is one of a world, and its place is a node
pub record ThingAt (c : Cluster) (w : CodeWorld) (k : ℕ) (key : Key) : Type 0 where
  pub thing : Thing
  pub is : things_of (frame_of c) w key ≡ Some thing
  pub at : place c thing.home ≡ Some k

-- each of some owners
abbrev pub ThingsAt : Cluster → CodeWorld → ℕ → List Key → Type 0
ThingsAt c w k keys = (key : Key) → Has keys key → ThingAt c w k key

-- One owner has come or gone at a node, which got these texts; all else is as it was.
pub record OnePut (Added : List ℕ → Type 0) (c c' : Cluster) (k : ℕ) (key : Key) (now : Option Thing) : Type 0 where
  pub parts : c'.parts ≡ c.parts
  pub images : c'.images ≡ c.images
  pub whereabouts : c'.whereabouts ≡ c.whereabouts
  pub nodes : length c'.nodes ≡ length c.nodes
  pub old : Store
  pub new : Store
  pub at : NodePut (stores c) (stores c') k old new
  pub puts : Puts old new key now
  pub gets : GetsTexts Added old new

-- A node keeps each of some owners, none of which stands twice.
pub record AreKept (c : Cluster) (k : ℕ) (keys : List Key) : Type 0 where
  pub once : Distinct keys
  pub each : (key : Key) → Has keys key → KeptAt c key k

-- Some owners have gone from a node: they travel too, in each world that was shown but for others that travel.
pub record TakenOff (c c' : Cluster) (k : ℕ) (keys : List Key) : Type 0 where
  pub changes : Changes Nothing c c'
  pub whereabouts : c'.whereabouts ≡ c.whereabouts
  pub others : (j : ℕ) → j ≢ k → stores c' j ≡ stores c j
  pub kept : (key : Key) → (Has keys key → ⊥) → KeptAt c key k → KeptAt c' key k
  pub shows : (w : CodeWorld) (before : List Key) → ThingsAt c w k keys → Distinct (before ++ keys) →
      ShowsStaying c (among before) w → ShowsStaying c' (among (before ++ keys)) w
