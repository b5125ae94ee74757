-- A search for the members of a group: which objects are found, and which of these have links still to be followed.
use Rattle.std.specs.Prelude.{ℕ, ◌-◌, Bool, true, false, List, [], ◌∷◌, ◌++◌, Option, Some, None, slice_set}
use Rattle.ec_world.specs.declared.group.Search.{Search}
use Rattle.ec_world.specs.Group.{mark_at}

-- a link to an object that is there and isn't found yet: the object is found, and its own links are to be followed
abbrev pub found_if : Search → ℕ → Option Bool → Search
found_if s oid None = s
found_if s oid (Some true) = s
found_if s oid (Some false) = record { marks = slice_set s.marks (oid - 1) true; todo = s.todo ++ oid ∷ [] }

abbrev pub found : Search → ℕ → Search
found s oid = found_if s oid (mark_at s.marks oid)

abbrev pub all_found : Search → List ℕ → Search
all_found s [] = s
all_found s (oid ∷ oids) = all_found (found s oid) oids
