-- What the homes of variables have to be.
use Rattle.std.specs.Prelude.{◌≡◌, ◌≢◌, ℕ, ◌+◌, ◌<◌, List, length, Some, slice_get}
use Rattle.ec_code.specs.declared.code.Line.{Line}
use Rattle.ec_code.specs.declared.code.Variable.{Variable}
use Rattle.ec_code.specs.declared.code.Variable.TheVariants.{Named, Temporary}
use Rattle.ec_code.specs.Fine.{IsIn}
use Rattle.ec_machine_code.specs.declared.homes.Home.{Home}
use Rattle.ec_machine_code.specs.declared.homes.Home.TheVariants.{Register, Slot}
use Rattle.ec_machine_code.specs.Meeting.{Meet, met_by}

-- one of so many named variables, or a temporary
abbrev pub IsVariable : ℕ → Variable → Type 0
IsVariable named (Named n) = n < named
IsVariable named (Temporary d) = Unit {0}

-- the place of a variable among all: named ones first, then temporaries
abbrev pub column : ℕ → Variable → ℕ
column named (Named n) = n
column named (Temporary d) = named + d

-- Each variable that meets another in the code is one of so many named ones or a temporary.
abbrev pub HasItsVariables : ℕ → List Line → Type 0
HasItsVariables named code = (x y : Variable) → IsIn y (met_by x code) → IsVariable named x × IsVariable named y

-- a register below a number, or a slot below another
abbrev pub IsWithin : ℕ → ℕ → Home → Type 0
IsWithin registers slots (Register k) = k < registers
IsWithin registers slots (Slot n) = n < slots

abbrev pub LivesIn : ℕ → List Home → Variable → Home → Type 0
LivesIn named homes x h = IsVariable named x × (slice_get homes (column named x) ≡ Some h)

-- The homes of an operation's variables, by their columns.
pub record AreHomes (named count registers : ℕ) (code : List Line) (homes : List Home) : Type 0 where
  pub all : length homes ≡ count
  pub within : (c : ℕ) (h : Home) → slice_get homes c ≡ Some h → IsWithin registers count h
  -- variables that meet have different homes
  pub apart : (x y : Variable) (g h : Home) → Meet code x y → LivesIn named homes x g → LivesIn named homes y h → g ≢ h
  -- a slot is a home only where each register is that of a variable that meets this one
  pub needed : (x : Variable) (n k : ℕ) → LivesIn named homes x (Slot n) → k < registers →
      (y : Variable) × Meet code x y × LivesIn named homes y (Register k)
