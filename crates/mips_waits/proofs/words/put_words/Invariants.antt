use Rattle.std.proofs.Common.{◌≡◌, ℕ, ◌<◌, length, false}
use Rattle.std.specs.Prelude.{slice_index}
use Rattle.mips_delay.specs.Choice.{set_at}
use Rattle.mips_delay.specs.Places.{IsKept, drops, place}
use Rattle.mips_waits.proofs.words.put_words.Given as goal

-- each word before that stays stands where it goes
abbrev pub invariant-loop-i : goal.invariant-loop-i
invariant-loop-i l =
    (length l.new ≡ place (set_at l.moves.fills.items) l.i)
    × ((k : ℕ) → k < l.i → drops (set_at l.moves.fills.items) k ≡ false →
    IsKept (set_at l.moves.fills.items) k (slice_index l.words k) (slice_index l.new (place (set_at l.moves.fills.items) k)))
