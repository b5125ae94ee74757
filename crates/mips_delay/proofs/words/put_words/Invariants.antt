use Rattle.std.proofs.Common.{◌≡◌, ℕ, ◌<◌, length, false}
use Rattle.std.specs.Prelude.{slice_index}
use Rattle.mips_delay.specs.Choice.{Stands, set_at}
use Rattle.mips_delay.specs.Places.{drops, place}
use Rattle.mips_delay.proofs.words.put_words.Given as goal

-- each word before stands where it goes
abbrev pub invariant-loop-i : goal.invariant-loop-i
invariant-loop-i l =
    (length l.new ≡ place (set_at l.moves.fills.items) l.i)
    × ((k : ℕ) → k < l.i → drops (set_at l.moves.fills.items) k ≡ false →
    Stands l.words (set_at l.moves.fills.items) k (slice_index l.new (place (set_at l.moves.fills.items) k)))
