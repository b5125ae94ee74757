-- Values in range: those that a machine word, or a list of bytes, can stand for.
use Rattle.std.specs.Prelude.{ℕ, ◌<◌, ◌≤◌, List, length, Option, Some, None, FitsSigned}
use Rattle.std.specs.Int.{w32}
use Rattle.std.specs.List.{AllByRecursion as Each}
use Rattle.ec_world.specs.Texts.{longest}
use Rattle.ec_world.specs.declared.value.Value.{Value}
use Rattle.ec_world.specs.declared.value.Value.TheVariants.{Int, Str, Ref, Nil, Bool as Truth}

abbrev pub IsByte : ℕ → Type 0
IsByte b = b < 256

-- a text of 0 to 65,535 bytes
pub record IsText (s : List ℕ) : Type 0 where
  pub short : length s ≤ longest
  pub bytes : Each IsByte s

-- A number is from -2^31 to 2^31 - 1, and a text has 0 to 65,535 bytes. A truth value, a reference and nil always are in range.
abbrev pub InRange : Value → Type 0
InRange (Int z) = FitsSigned w32 z
InRange (Str s) = IsText s
InRange (Truth b) = Unit {0}
InRange (Ref o) = Unit {0}
InRange Nil = Unit {0}

abbrev pub AllInRange : List Value → Type 0
AllInRange = Each InRange

-- where a value is given
abbrev pub GivenInRange : Option Value → Type 0
GivenInRange None = Unit {0}
GivenInRange (Some v) = InRange v
