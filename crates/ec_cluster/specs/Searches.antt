-- A search for the members of a group on nodes, as a search by marks.
use Rattle.std.specs.Prelude.{◌≡◌, ◌<◌, ◌≤◌, ◌↔◌, ℕ, Bool, true, List}
use Rattle.std.specs.BTreeSet.{BTreeSet, contains}
use Rattle.std.specs.Ordering.{nat_cmp}
use Rattle.ec_cluster.specs.declared.cluster.Cluster.{Cluster}
use Rattle.ec_cluster.specs.Decoded.{seen_common}
use Rattle.ec_cluster.specs.Each.{each_from}
use Rattle.ec_cluster.specs.declared.seen.searching.Search.{Search}
use Rattle.ec_world.specs.Group.{InGroup}
use Rattle.ec_world.specs.Search.{all_found}

-- of n objects those in a set are marked
abbrev pub marks_of : ℕ → BTreeSet ℕ → List Bool
marks_of n members = each_from (contains nat_cmp members) 1 n

-- only numbers of the n objects are in a set
pub record IsWithin (n : ℕ) (members : BTreeSet ℕ) : Type 0 where
  pub each : (oid : ℕ) → contains nat_cmp members oid ≡ true → (0 < oid) × (oid ≤ n)

-- these of the n objects have been found, as a search by marks finds them
pub record Finds (n : ℕ) (s s' : Search) (oids : List ℕ) : Type 0 where
  pub is : all_found (record { marks = marks_of n s.members; todo = s.todo }) oids ≡
      record { marks = marks_of n s'.members; todo = s'.todo }
  pub within : IsWithin n s.members → IsWithin n s'.members

-- a set has the members of an object's group, and no other number
pub record HasGroup (c : Cluster) (x : ℕ) (members : BTreeSet ℕ) : Type 0 where
  pub each : (y : ℕ) → (contains nat_cmp members y ≡ true) ↔ InGroup (seen_common c) x y
