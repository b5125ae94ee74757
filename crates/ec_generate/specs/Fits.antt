-- What faithful code is asked to go on from can be met behind each stop of a program.
use Rattle.std.specs.Prelude.{◌≡◌, ℕ, List, Some, slice_get}
use Rattle.ec_code.specs.Activations.{operation_at}
use Rattle.ec_code.specs.declared.code.Operation.{Operation}
use Rattle.ec_code.specs.declared.code.Parts.{Parts}
use Rattle.ec_machine_code.specs.Machine.{MachineMeaning}
use Rattle.ec_machine_code.specs.Stops.{stop_places}
use Rattle.ec_machine_code.specs.declared.code.Code.{Code}
use Rattle.ec_machine_code.specs.declared.homes.Home.{Home}
use Rattle.ec_machine_code.specs.Fitted.{FitAt}

-- Behind each stop some activation, state and memory fit one another.
abbrev pub EachFits : {S : Type 0} → MachineMeaning S → Parts → Code → List (List Home) → Type 0
EachFits M p code homes =
    (n k q : ℕ) (o : Operation) → operation_at p n ≡ Some o → slice_get (stop_places o.code) k ≡ Some q → FitAt M p code homes n q o
