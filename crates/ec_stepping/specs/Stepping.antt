-- What a step leaves, and what the code answers of it.
use Rattle.std.specs.Prelude.{ℕ, zero, suc, List, Option, Some, None, ℤ}
use Rattle.ec_code.specs.Activations.{Arrived, arrived, opened}
use Rattle.ec_code.specs.Steps.{Done, Goes, Rests, Loops, NoCase}
use Rattle.ec_code.specs.Steps as steps
use Rattle.ec_code.specs.declared.code.Op.{Op}
use Rattle.ec_code.specs.declared.code.Op.TheVariants as op
use Rattle.ec_code.specs.declared.code.StopRow.{StopRow}
use Rattle.ec_code.specs.declared.activation.CodeActivation.{CodeActivation}
use Rattle.ec_stepping.specs.declared.machine.Machine.{Machine}
use Rattle.ec_stepping.specs.declared.machine.Outcome.{Outcome}
use Rattle.ec_stepping.specs.declared.machine.Outcome.TheVariants as outcome
use Rattle.ec_stepping.specs.declared.walking.AtStop.{AtStop}
use Rattle.ec_world.specs.declared.common.Common.{Common}
use Rattle.ec_world.specs.declared.value.Value.{Value}
use Rattle.ec_world.specs.declared.value.Value.TheVariants.{Int}

-- the machine of the meaning that the code has
abbrev pub as_machine : Machine → steps.Machine
as_machine m = record { common = m.common; variables = m.variables; temporaries = m.temporaries }

-- ---- one step

-- The code goes on from a machine past so many steps, rests with it, is back at the top of a loop with it, or has no case with it.
pub data After : Type 0 where
  On : steps.Machine → (over : ℕ) → After
  Resting : steps.Machine → StopRow → List Value → After
  Looping : steps.Machine → (back : ℕ) → After
  Stuck : steps.Machine → After

-- a step from a machine
abbrev pub after : steps.Machine → Done → After
after m (Goes new over) = On new over
after m (Rests row operands) = Resting m row operands
after m (Loops back) = Looping m back
after m NoCase = Stuck m

-- Only a stop is rested at.
abbrev pub rests_at : steps.Machine → Op → List Value → After
rests_at m (op.Rest row) operands = Resting m row operands
rests_at m _ operands = Stuck m

-- an answer of the code to a step, with the machine then
abbrev pub came : Outcome → Op → steps.Machine → After
came (outcome.Goes over) o m = On m over
came (outcome.Rests operands) o m = rests_at m o operands
came (outcome.Loops back) o m = Looping m back
came outcome.NoCase o m = Stuck m

-- ---- values that are read

abbrev pub number_in : Option Value → Option ℤ
number_in (Some (Int z)) = Some z
number_in _ = None

abbrev pub both : Option ℤ → Option ℤ → Option (ℤ × ℤ)
both (Some a) (Some b) = Some (a, b)
both (Some a) None = None
both None b = None

abbrev pub numbers_in : Option Value → Option Value → Option (ℤ × ℤ)
numbers_in u v = both (number_in u) (number_in v)

abbrev pub of_two : {A : Type 0} → (ℤ → ℤ → Option A) → Option (ℤ × ℤ) → Option A
of_two f None = None
of_two f (Some (a, b)) = f a b

-- ---- the next stop

abbrev pub rests_as : Op → List Value → Done
rests_as (op.Rest row) operands = Rests row operands
rests_as _ operands = NoCase

-- an answer of the code to a walk, with the machine then
abbrev pub settled : Option AtStop → Machine → Common × Option Arrived
settled None m = (m.common, None)
settled (Some at) m = (m.common, Some (arrived (as_machine m) at.stop at.operands at.into at.place))

-- ---- behind a stop

-- the variables with which an activation goes on from the stop at a place, where its operation has so many
abbrev pub variables_from : CodeActivation → ℕ → ℕ → List Value
variables_from a count zero = opened a.variables count
variables_from a count (suc at) = a.variables
