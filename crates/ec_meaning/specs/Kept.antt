-- What a plain run keeps of a program, so that it is looked up in one step.
use Rattle.std.specs.Prelude.{◌≡◌, ℕ, ◌+◌, ◌≤◌, List, length, Some, slice_get}
use Rattle.ec_meaning.specs.Programs.{line_of}

-- the line of each byte of a text, and of its end
pub record AreLines (text : List ℕ) (lines : List ℕ) : Type 0 where
  pub full : length lines ≡ length text + 1
  pub each : (at : ℕ) → at ≤ length text → slice_get lines at ≡ Some (line_of text at)
