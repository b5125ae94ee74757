use Rattle.std.proofs.Common.{◌≡◌, ℕ, ◌<◌, length, true}
use Rattle.mips_delay.specs.Choice.{set_at}
use Rattle.mips_waits.specs.Waits.{IsNeedless}
use Rattle.mips_waits.proofs.needless.needless.Given as goal

-- each word before was looked at
abbrev pub invariant-loop-j : goal.invariant-loop-j
invariant-loop-j l =
    (length l.skips.items ≡ l.j)
    × ((k : ℕ) → set_at l.skips.items k ≡ true → IsNeedless l.words k)
    × ((k : ℕ) → k < l.j → IsNeedless l.words k → set_at l.skips.items k ≡ true)
