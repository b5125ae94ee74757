use Rattle.std.proofs.Common.{◌≡◌, ◌⊎◌, ℕ, ◌<◌, ◌≤◌, length, map}
use Rattle.std.specs.Prelude.{slice_get}
use Rattle.ec_machine_code.specs.Stops.{stops_if, words_before}
use Rattle.mips_delay.specs.Choice.{set_at}
use Rattle.mips_delay.specs.Places.{moved_to, place}
use Rattle.mips_delay.proofs.operations.put_operations.Given as goal

-- each operation before stands, and the next one begins at `begin`, unless both are behind the last word
abbrev pub invariant-loop-i : goal.invariant-loop-i
invariant-loop-i l =
    (length l.new ≡ l.i)
    × ((op : ℕ) → op ≤ l.i → words_before l.new op ≡ place (set_at l.moves.fills.items) (words_before l.operations op))
    × ((op : ℕ) → op < l.i →
    stops_if (slice_get l.new op) ≡ map (moved_to (set_at l.moves.fills.items)) (stops_if (slice_get l.operations op)))
    × (l.begin ≤ length l.moves.fills.items)
    × ((l.begin ≡ words_before l.operations l.i)
    ⊎ ((l.begin ≡ length l.moves.fills.items) × (length l.moves.fills.items ≤ words_before l.operations l.i)))
