-- Where the objects in a parcel are, and what is shown when all that is in it has set off.
use Rattle.std.specs.Prelude.{◌≡◌, ◌≢◌, ℕ, List, Some}
use Rattle.ec_carrying.specs.Steps.{ShowsStaying, ThingsAt}
use Rattle.ec_cluster.specs.Cluster.{CodeWorld, Shows, frame_of, place, stores}
use Rattle.ec_cluster.specs.Steps.{Changes, Nothing}
use Rattle.ec_cluster.specs.declared.cluster.Cluster.{Cluster}
use Rattle.ec_cluster.specs.Whereabouts.{Traces, made_count, place_at}
use Rattle.ec_world.specs.declared.key.Key.{Key}
use Rattle.ec_parcels.specs.Owners.{among, keys_of}
use Rattle.ec_things.specs.Things.{Thing, things_of}
use Rattle.ec_wire.specs.declared.parcel.Contents.{Contents}
use Rattle.ec_wire.specs.declared.parcel.ObjectPart.{ObjectPart}
use Rattle.ec_world.specs.Group.{Has}

-- a node is the place of all these objects
abbrev pub AreAll : Traces → List ObjectPart → ℕ → Type 0
AreAll d objects k = (part : ObjectPart) → Has objects part → place_at d part.number ≡ Some k

-- none of these objects has this number
abbrev pub NotAny : List ObjectPart → ℕ → Type 0
NotAny objects oid = (part : ObjectPart) → Has objects part → part.number ≢ oid

-- what is at the place of an object in a parcel is in the parcel too
abbrev pub GoWithHomes : Cluster → CodeWorld → Contents → Type 0
GoWithHomes c w x =
    (key : Key) (t : Thing) (part : ObjectPart) → things_of (frame_of c) w key ≡ Some t → Has x.objects part → part.number ≡ t.home →
    Has (keys_of x) key

-- All that is in a parcel has gone from a node: it travels, and the objects in it are to be at another node.
pub record SetOff (c c' : Cluster) (from to : ℕ) (x : Contents) : Type 0 where
  pub changes : Changes Nothing c c'
  pub others : (j : ℕ) → j ≢ from → stores c' j ≡ stores c j
  pub there : AreAll c'.whereabouts x.objects to
  pub stay : (oid : ℕ) → NotAny x.objects oid → place c' oid ≡ place c oid
  pub count : made_count c'.whereabouts ≡ made_count c.whereabouts
  pub shows : (w : CodeWorld) → ThingsAt c w from (keys_of x) → GoWithHomes c w x → Shows c w → ShowsStaying c' (among (keys_of x)) w
