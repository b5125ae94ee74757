-- The words of a code without the no-ops that nothing needs.
use Rattle.std.specs.Prelude.{◌≡◌, ℕ, Bool, true, false, List, length, Option, None, Some, slice_index}
use Rattle.ec_target.specs.Code.{pc_of, word_at}
use Rattle.mips_delay.specs.Places.{IsKept, drops, place}
use Rattle.mips_waits.specs.Waits.{IsNeedless}

-- `skips` says for each word whether the second word behind it goes. Just the needless no-ops go; all else stays in its order, and jumps
-- and branches lead along.
pub record SkipsWords (old new : List ℕ) (skips : ℕ → Bool) : Type 0 where
  pub each : (j : ℕ) → skips j ≡ true → IsNeedless old j
  pub all : (j : ℕ) → IsNeedless old j → skips j ≡ true
  pub kept :
      (i w : ℕ) → drops skips i ≡ false → word_at old (pc_of i) ≡ Some w →
      (v : ℕ) × (word_at new (pc_of (place skips i)) ≡ Some v) × IsKept skips i w v
  pub long : length new ≡ place skips (length old)

-- the word to be written for word i: none for a no-op that goes
abbrev pub IsWordFor : List ℕ → (ℕ → Bool) → ℕ → Option ℕ → Type 0
IsWordFor old skips i None = drops skips i ≡ true
IsWordFor old skips i (Some v) = (drops skips i ≡ false) × IsKept skips i (slice_index old i) v
