-- Marks of variables by their columns, and the choice of a home by them.
use Rattle.std.specs.Prelude.{◌≡◌, ◌≢◌, ℕ, ◌-◌, ◌<◌, Bool, true, false, if◌then◌else◌, List, [], ◌∷◌, length, Some, slice_get, slice_set}
use Rattle.std.specs.Prelude.{nat_lt, replicate}
use Rattle.ec_code.specs.declared.code.Line.{Line}
use Rattle.ec_code.specs.declared.code.Variable.{Variable}
use Rattle.ec_code.specs.declared.code.Variable.TheVariants.{Named, Temporary}
use Rattle.ec_machine_code.specs.Homes.{column}
use Rattle.ec_machine_code.specs.Meeting.{met_by}
use Rattle.ec_machine_code.specs.declared.homes.Home.{Home}
use Rattle.ec_machine_code.specs.declared.homes.Home.TheVariants.{Register, Slot}

-- with these marked too
abbrev pub marked_with : ℕ → List Bool → List Variable → List Bool
marked_with named marks [] = marks
marked_with named marks (y ∷ ys) = marked_with named (slice_set marks (column named y) true) ys

-- the marks of the variables that meet one
abbrev pub row_of : ℕ → ℕ → List Line → Variable → List Bool
row_of named count code x = marked_with named (replicate count false) (met_by x code)

-- the variable of a column
abbrev pub variable_at : ℕ → ℕ → Variable
variable_at named c = if nat_lt c named then Named c else Temporary (c - named)

-- A home for the next column: a register that none has that is marked, or its own slot where each register has one.
abbrev pub IsChosen : List Bool → List Home → ℕ → Home → Type 0
IsChosen row homes registers (Register k) =
    (k < registers) × ((c : ℕ) (j : ℕ) → slice_get row c ≡ Some true → slice_get homes c ≡ Some (Register j) → j ≢ k)
IsChosen row homes registers (Slot n) =
    (n ≡ length homes)
    × ((k : ℕ) → k < registers → (c : ℕ) × (slice_get row c ≡ Some true) × (slice_get homes c ≡ Some (Register k)))

-- ---- registers that are taken

abbrev pub with_home : List Bool → Home → List Bool
with_home taken (Register k) = slice_set taken k true
with_home taken (Slot n) = taken

-- Of so many registers exactly those are taken that are homes of marked variables, of the columns below a number.
pub record HaveRegisters (row : List Bool) (homes : List Home) (registers below : ℕ) (taken : List Bool) : Type 0 where
  pub all : length taken ≡ registers
  pub only : (k : ℕ) → slice_get taken k ≡ Some true →
      (c : ℕ) × (slice_get row c ≡ Some true) × (slice_get homes c ≡ Some (Register k))
  pub each : (c k : ℕ) → c < below → slice_get row c ≡ Some true → slice_get homes c ≡ Some (Register k) →
      slice_get taken k ≢ Some false
