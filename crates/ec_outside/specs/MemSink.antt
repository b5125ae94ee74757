-- A sink in memory: the bytes it holds, and which of its calls fail.
use Rattle.std.specs.Prelude.{◌≡◌, ℕ, ◌<◌, ◌⊎◌, List, length, Contains}
use Rattle.ec_outside.specs.MemShelf.{next_call}

-- the bytes taken, the most bytes that a call moves, the numbers of the calls that are to fail, the number of
-- calls so far, and the count of faults
pub record MemSinkState : Type 0 where
  pub taken : List ℕ
  pub piece : ℕ
  pub failing : List ℕ
  pub calls : ℕ
  pub faults : ℕ

-- the next call meets a fault: its number is listed, or the piece has bytes and of so many there is no room left
abbrev pub IsToFail : ℕ → MemSinkState → List ℕ → Type 0
IsToFail room s piece = Contains s.failing (next_call s.calls) ⊎ ((0 < length piece) × (length s.taken ≡ room))
