-- What the answer of reading a parcel says.
use Rattle.std.specs.Prelude.{◌≡◌, ℕ, Result, Ok, Err}
use Rattle.ec_wire.specs.declared.error.WireError.{WireError}
use Rattle.ec_wire.specs.declared.error.ReadError.{ReadError}
use Rattle.ec_wire.specs.declared.error.ReadError.TheVariants.{Memory, Wire}

-- what holds of the fault for which bytes are refused; want of memory says nothing
abbrev pub IfRefused : {A : Type 0} → Result A ReadError → (WireError → Type 0) → Type 0
IfRefused (Ok a) P = Unit {0}
IfRefused (Err Memory) P = Unit {0}
IfRefused (Err (Wire fault)) P = P fault

-- the value or the fault is the one that reading by a format gives
abbrev pub Answers : {A : Type 0} → Result A ReadError → Result A ℕ → Type 0
Answers (Ok a) read = read ≡ Ok a
Answers (Err Memory) read = Unit {0}
Answers (Err (Wire fault)) read = read ≡ Err fault.at
