use Rattle.std.proofs.Common.{◌≡◌, ℕ, suc, ◌≤◌, length, Some}
use Rattle.std.specs.Prelude.{slice_get}
use Rattle.mips_delay.specs.Choice.{set_at}
use Rattle.mips_delay.specs.Places.{place}
use Rattle.mips_delay.proofs.moves.places_of.Given as goal

-- the places up to this word stand
abbrev pub invariant-loop-i : goal.invariant-loop-i
invariant-loop-i l =
    (length l.places.items ≡ suc l.i)
    × (l.to ≡ place (set_at l.fills) l.i)
    × ((k : ℕ) → k ≤ l.i → slice_get l.places.items k ≡ Some (place (set_at l.fills) k))
