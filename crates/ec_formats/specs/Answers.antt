-- What the answer of a reader says.
use Rattle.std.specs.Prelude.{◌≡◌, ℕ, Result, Ok, Err}
use Rattle.ec_formats.specs.declared.error.FieldError.{FieldError}
use Rattle.ec_formats.specs.declared.error.FieldError.TheVariants.{Memory, Fault}

-- this is the fault that reading meets; want of memory says nothing
abbrev pub Fails : {Y : Type 0} → FieldError → Result Y ℕ → Type 0
Fails Memory read = Unit {0}
Fails (Fault left) read = read ≡ Err left

-- what was returned, seen by `view`, is what reading gives, unless memory ran out
abbrev pub Gives : {X Y : Type 0} → (X → Y) → Result X FieldError → Result Y ℕ → Type 0
Gives view (Ok x) read = read ≡ Ok (view x)
Gives view (Err e) read = Fails e read
