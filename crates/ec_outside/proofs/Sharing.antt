-- Which names share a count.
use Rattle.std.proofs.Common.{◌≢◌, ℕ, List, inl, inr}
use Rattle.std.specs.Prelude.{Contains}
use Rattle.ec_outside.specs.Fault.{ShareCount}

-- a kept name shares its count with no other name
pub kept_apart : (kept : List (List ℕ)) (a b : List ℕ) → Contains kept b → a ≢ b → ¬ ShareCount kept a b
kept_apart kept a b h ne (inl e) = ne e
kept_apart kept a b h ne (inr none) = none.1 h
