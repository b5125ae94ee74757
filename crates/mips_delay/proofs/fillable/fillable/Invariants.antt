use Rattle.std.proofs.Common.{◌≡◌, ℕ, ◌<◌, length, true}
use Rattle.mips_delay.specs.Choice.{set_at}
use Rattle.mips_delay.specs.Fillable.{Fillable}
use Rattle.mips_delay.proofs.fillable.fillable.Given as goal

-- each word before was looked at
abbrev pub invariant-loop-j : goal.invariant-loop-j
invariant-loop-j l =
    (length l.fills.items ≡ l.j)
    × ((k : ℕ) → set_at l.fills.items k ≡ true → Fillable l.words k)
    × ((k : ℕ) → k < l.j → Fillable l.words k → set_at l.fills.items k ≡ true)
