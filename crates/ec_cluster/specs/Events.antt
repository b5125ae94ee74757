-- What becomes of the objects of a world by its events, and where they then are.
use Rattle.std.specs.Prelude.{◌≡◌, ℕ, ◌+◌, List, [], ◌∷◌, length}
use Rattle.ec_world.specs.declared.event.Event.{Event}
use Rattle.ec_world.specs.declared.event.Event.TheVariants.{Created, Moved}
use Rattle.ec_world.specs.Places.{AreEvents, first_places, node_or_first, place_in, places, places_after}
use Rattle.ec_cluster.specs.Located.{Located, first_made, made_at, moved_to}

-- some objects go to node k, each from where it is
abbrev pub all_moved : Located → List ℕ → ℕ → Located
all_moved w [] k = w
all_moved w (m ∷ ms) k = all_moved (moved_to w m (node_or_first (w.place m)) k) ms k

-- an object is made where its maker is, or a group goes to where its target is
abbrev pub noted : Located → Event → Located
noted w (Created oid maker) = made_at w oid (node_or_first (w.place maker))
noted w (Moved members target) = all_moved w members (node_or_first (w.place target))

abbrev pub all_noted : Located → List Event → Located
all_noted w [] = w
all_noted w (e ∷ es) = all_noted (noted w e) es

-- the objects that were made are at these nodes, in order
pub record AreAt (w : Located) (at : List ℕ) : Type 0 where
  pub made : w.made ≡ length at
  pub each : (oid : ℕ) → w.place oid ≡ place_in at oid

-- The objects that are there first are at the first places.
abbrev pub FirstObjectsAreAt : Type 0
FirstObjectsAreAt = (n : ℕ) → AreAt (first_made n) (first_places n)

-- Where objects are at some places, they are after events at the places after these events.
abbrev pub EventsGivePlaces : Type 0
EventsGivePlaces =
    (w : Located) (at : List ℕ) (events : List Event) → AreEvents (length at) events → AreAt w at →
    AreAt (all_noted w events) (places_after at events)

-- So they are on n nodes.
abbrev pub EventsGivePlacement : Type 0
EventsGivePlacement =
    (n : ℕ) (events : List Event) → AreEvents (n + 1) events → AreAt (all_noted (first_made n) events) (places n events)
