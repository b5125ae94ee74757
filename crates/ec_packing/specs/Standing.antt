-- The activations that are at a node on members of a group.
use Rattle.std.specs.Prelude.{◌≡◌, ◌⊎◌, ◌↔◌, ℕ, true, List}
use Rattle.std.specs.BTreeSet.{BTreeSet, contains}
use Rattle.std.specs.List.Sorted.{IsStrictlySortedBy}
use Rattle.ec_stores.specs.Changes.{StandsOn}
use Rattle.ec_stores.specs.Tables.{frame_cmp}
use Rattle.ec_things.specs.Store.{Store}
use Rattle.ec_world.specs.Group.{Has}

-- an activation, by its process and its depth, is there on a member
pub record IsOnMember (s : Store) (members : List ℕ) (at : ℕ × ℕ) : Type 0 where
  pub oid : ℕ
  pub member : Has members oid
  pub stands : StandsOn s at.0 at.1 oid

-- these are the activations on members, by process and then by depth
pub record AreOnMembers (s : Store) (members : List ℕ) (found : List (ℕ × ℕ)) : Type 0 where
  pub each : (at : ℕ × ℕ) → Has found at → IsOnMember s members at
  pub all : (at : ℕ × ℕ) → IsOnMember s members at → Has found at
  pub ordered : IsStrictlySortedBy frame_cmp found

abbrev pub IsFound : BTreeSet (ℕ × ℕ) → ℕ × ℕ → Type 0
IsFound found at = contains frame_cmp found at ≡ true

-- those on one object more have been found
abbrev pub AreOnOneMore : Store → ℕ → BTreeSet (ℕ × ℕ) → BTreeSet (ℕ × ℕ) → Type 0
AreOnOneMore s oid old new = (at : ℕ × ℕ) → IsFound new at ↔ (IsFound old at ⊎ StandsOn s at.0 at.1 oid)
