-- The variables of an operation begin with its parameters and its result.
use Rattle.std.specs.Prelude.{ℕ, ◌+◌, ◌≤◌, Bool, true, false, length}
use Rattle.ec_core.specs.declared.Operation.{Operation}

abbrev pub result_count : Bool → ℕ
result_count true = 1
result_count false = 0

-- It has a variable for each parameter, and one for its result where it has one.
abbrev pub HeadingFits : Operation → Type 0
HeadingFits o = o.parameters + result_count o.has_result ≤ length o.variables
