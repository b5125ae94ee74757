-- Where objects are: nodes have each object where the events of a world have it.
use Rattle.std.specs.Prelude.{◌≡◌, ℕ, length, Option, Some}
use Rattle.ec_cluster.specs.Cluster.{CodeWorld, place}
use Rattle.ec_cluster.specs.declared.cluster.Cluster.{Cluster}
use Rattle.ec_world.specs.Objects.{object_at}
use Rattle.ec_world.specs.Places.{place_in, places}
use Rattle.ec_world.specs.declared.object.ObjectRec.{ObjectRec}

-- the node at which an object is, after the events of a world
abbrev pub place_of : CodeWorld → ℕ → Option ℕ
place_of w oid = place_in (places w.common.nodes w.common.events) oid

-- the events of a world place each of its objects, and no others
abbrev pub PlacesEach : CodeWorld → Type 0
PlacesEach w = length (places w.common.nodes w.common.events) ≡ length w.common.objects

-- each object is where the events have it
abbrev pub ArePlaced : Cluster → CodeWorld → Type 0
ArePlaced c w = (oid : ℕ) → place c oid ≡ place_of w oid

-- The events of a world place its objects, and nodes have each of them there.
pub record HasPlaces (c : Cluster) (w : CodeWorld) : Type 0 where
  pub each : PlacesEach w
  pub placed : ArePlaced c w

-- each object of a world has its place where the events have it
abbrev pub AgreeWith : (ℕ → Option ℕ) → CodeWorld → Type 0
AgreeWith at w = (oid : ℕ) (o : ObjectRec) → object_at w.common.objects oid ≡ Some o → at oid ≡ place_of w oid
