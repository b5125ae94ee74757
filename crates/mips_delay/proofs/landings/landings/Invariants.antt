use Rattle.std.proofs.Common.{◌≡◌, ℕ, ◌<◌, length, true}
use Rattle.mips_delay.specs.Choice.{GoesBefore, set_at}
use Rattle.mips_delay.proofs.landings.landings.Given as goal

-- marked is just where one of the words before leads
abbrev pub invariant-loop-i : goal.invariant-loop-i
invariant-loop-i l =
    (length l.landed.items ≡ length l.words)
    × ((k : ℕ) → set_at l.landed.items k ≡ true → GoesBefore l.words l.i k)
    × ((k : ℕ) → k < length l.words → GoesBefore l.words l.i k → set_at l.landed.items k ≡ true)
