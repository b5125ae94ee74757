-- Where objects lie, as a fold over events: an object comes where its maker is, and a group goes where its target is.
use Rattle.std.specs.Prelude.{◌≡◌, ℕ, zero, suc, ◌-◌, ◌<◌, ◌≤◌, List, [], ◌∷◌, ◌++◌, Option, Some, None, slice_get, slice_set}
use Rattle.ec_world.specs.declared.event.Event.{Event}
use Rattle.ec_world.specs.declared.event.Event.TheVariants.{Created, Moved}

-- the numbers from one on
abbrev pub numbers_from : ℕ → ℕ → List ℕ
numbers_from i zero = []
numbers_from i (suc n) = i ∷ numbers_from (suc i) n

-- at the start the object of node k is at k, and the program's own object at 0
abbrev pub first_places : ℕ → List ℕ
first_places n = numbers_from 0 n ++ 0 ∷ []

-- the place of an object; numbers begin at 1
abbrev pub place_in : List ℕ → ℕ → Option ℕ
place_in places zero = None
place_in places (suc i) = slice_get places i

abbrev pub node_or_first : Option ℕ → ℕ
node_or_first None = 0
node_or_first (Some k) = k

-- the places after a group has gone to a node
abbrev pub moved : List ℕ → List ℕ → ℕ → List ℕ
moved places [] k = places
moved places (m ∷ ms) k = moved (slice_set places (m - 1) k) ms k

abbrev pub placed : List ℕ → Event → List ℕ
placed places (Created oid maker) = places ++ node_or_first (place_in places maker) ∷ []
placed places (Moved members target) = moved places members (node_or_first (place_in places target))

abbrev pub places_after : List ℕ → List Event → List ℕ
places_after places [] = places
places_after places (e ∷ es) = places_after (placed places e) es

-- the place of each object, in order, on n nodes after these events
abbrev pub places : ℕ → List Event → List ℕ
places n events = places_after (first_places n) events

-- an event that names objects that are there: so many have been made before it
abbrev pub AreThere : ℕ → List ℕ → Type 0
AreThere count [] = Unit {0}
AreThere count (m ∷ ms) = (0 < m) × (m ≤ count) × AreThere count ms

-- the events of a world on n nodes, of whose objects so many were there before them
abbrev pub AreEvents : ℕ → List Event → Type 0
AreEvents count [] = Unit {0}
AreEvents count (Created oid maker ∷ es) = (oid ≡ suc count) × (0 < maker) × (maker ≤ count) × AreEvents (suc count) es
AreEvents count (Moved members target ∷ es) = AreThere count members × (0 < target) × (target ≤ count) × AreEvents count es
