-- A frame with the words of a new activation.
use Rattle.std.specs.Prelude.{◌≡◌, ℕ, suc, ◌<◌, List, length, Some, slice_get}
use Rattle.ec_code.specs.declared.code.Live.{Live}
use Rattle.ec_machine_code.specs.Frames.{home_word}
use Rattle.ec_generate.specs.Tables.{home_in}
use Rattle.ec_generate.specs.declared.table.OperationTable.{OperationTable}

-- the word of a frame that a variable has by a table
abbrev pub spot_of : OperationTable → Live → ℕ
spot_of table l = home_word (home_in table l.variable)

-- A word of a frame is that of one of these variables, whose home is there. The first of the words is none of theirs.
pub record IsOfOne (table : OperationTable) (held : List Live) (words frame : List ℕ) (at : ℕ) : Type 0 where
  pub index : ℕ
  pub live : Live
  pub word : ℕ
  pub is : slice_get held index ≡ Some live
  pub its : slice_get words (suc index) ≡ Some word
  pub home : spot_of table live ≡ at
  pub there : slice_get frame at ≡ Some word

-- A frame of 128 words has its headings, and a word at the home of each of the first n variables.
pub record IsFilled (table : OperationTable) (held : List Live) (words heads frame : List ℕ) (n : ℕ) : Type 0 where
  pub long : length frame ≡ 128
  pub headed : (i w : ℕ) → slice_get heads i ≡ Some w → slice_get frame i ≡ Some w
  pub each : (i : ℕ) (l : Live) → i < n → slice_get held i ≡ Some l → spot_of table l < 128 →
      IsOfOne table held words frame (spot_of table l)
