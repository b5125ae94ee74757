-- How many values go with an activation of lowered code, and that each is another.
use Rattle.std.specs.Prelude.{◌≡◌, ◌++◌, ℕ, List, Some, map}
use Rattle.ec_code.specs.Activations.{operation_at}
use Rattle.ec_code.specs.declared.code.Live.{Live}
use Rattle.ec_code.specs.declared.code.Operation.{Operation}
use Rattle.ec_code.specs.declared.code.Parts.{Parts}
use Rattle.ec_code.specs.declared.code.Variable.{Variable}
use Rattle.ec_machine_code.specs.Limits.{HasLimits}
use Rattle.ec_emission_laws.specs.Laws.{PartsFit}
use Rattle.ec_code.specs.Live.{InOrder}
use Rattle.ec_emission.specs.Lowered.{IsLowered}
use Rattle.ec_meaning.specs.Programs.{Source}
use Rattle.ec_generate.specs.Entries.{entries_of}
use Rattle.ec_generate.specs.declared.table.StopEntry.{StopEntry}
use Rattle.ec_generate.specs.Limits.{CarriesFew}
use Rattle.ec_world.specs.Group.{Has}

abbrev pub variables_of : List Live → List Variable
variables_of values = map (λ l. l.variable) values

-- The variables at each stop are in order, what is live behind it first and then its operands, and so none of them stands twice.
abbrev pub StandOnce : Parts → Type 0
StandOnce p =
    (n : ℕ) (o : Operation) (e : StopEntry) → operation_at p n ≡ Some o → Has (entries_of o.code) e →
    InOrder (variables_of e.live ++ variables_of e.operands)

-- Each expression of the source gives a value where one is wanted (an operation without a result would leave its receiver in use behind
-- its stop): so the operands lie one above the other, each in a temporary of its own, and none of them is live behind the stop.
abbrev pub LoweredValuesStandOnce : Type 0
LoweredValuesStandOnce = (s : Source) (p : Parts) → PartsFit s → IsLowered s p → StandOnce p

-- At each stop of code that such a source is lowered to, within the limits of code, there are at most 100 values.
abbrev pub LoweredCarriesFew : Type 0
LoweredCarriesFew = (s : Source) (p : Parts) → PartsFit s → IsLowered s p → HasLimits p → CarriesFew p
