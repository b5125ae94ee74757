-- What three-address code means to a world: silent steps up to the next stop, and activations.
use Rattle.std.specs.Prelude.{ℕ, zero, suc, ◌-◌, true, false, List, [], ◌∷◌, ◌++◌, drop, length, replicate}
use Rattle.std.specs.Prelude.{Option, Some, None, slice_get, slice_set}
use Rattle.ec_code.specs.declared.activation.CodeActivation.{CodeActivation}
use Rattle.ec_code.specs.declared.code.Line.{Line}
use Rattle.ec_code.specs.declared.code.Operation.{Operation}
use Rattle.ec_code.specs.declared.code.Parts.{Parts}
use Rattle.ec_code.specs.declared.code.Variable.{Variable}
use Rattle.ec_code.specs.declared.code.Variable.TheVariants.{Named, Temporary}
use Rattle.ec_code.specs.Steps.{Machine, Done, Goes, Rests, Loops, NoCase, act, put}
use Rattle.ec_types.specs.declared.conform.static_type.StaticType.{StaticType}
use Rattle.ec_world.specs.declared.common.Common.{Common}
use Rattle.ec_world.specs.declared.stop.Stop.{Stop}
use Rattle.ec_world.specs.declared.stop.Stop.TheVariants as stop
use Rattle.ec_world.specs.declared.value.Value.{Value}
use Rattle.ec_world.specs.declared.value.Value.TheVariants.{Nil}
use Rattle.ec_world.specs.Meaning.{ActivationMeaning}

-- ---- silent steps

-- a stop that is reached, by its place in the code: its operands, the variable that waits for its result, and the variables
pub record Arrived : Type 0 where
  pub action : Stop
  pub operands : List Value
  pub into : Option Variable
  pub place : ℕ
  pub variables : List Value
  pub temporaries : List Value

abbrev pub arrived : Machine → Stop → List Value → Option Variable → ℕ → Arrived
arrived m action operands into place = record {
  action = action;
  operands = operands;
  into = into;
  place = place;
  variables = m.variables;
  temporaries = m.temporaries;
}

abbrev pub walk_by : ℕ → (ℕ → Machine → Common × Option Arrived) → Machine → Done → Common × Option Arrived
walk_by place next m (Goes new over) = next over new
walk_by place next m (Rests row operands) = (m.common, Some (arrived m row.stop operands row.into place))
walk_by place next m (Loops back) = (m.common, Some (arrived m stop.LoopTop [] None (place - back)))
walk_by place next m NoCase = (m.common, None)

-- Through what is left of the code, which begins at a place; so many steps are passed over first. What the world then has
-- beside its processes, and the stop that is reached, if there is one.
abbrev pub walk : List (List ℕ) → ℕ → ℕ → List Line → ℕ → Machine → Common × Option Arrived
walk literals own place [] over m = (m.common, None)
walk literals own place (line ∷ rest) (suc over) m = walk literals own (suc place) rest over m
walk literals own place (line ∷ rest) zero m =
    walk_by place (walk literals own (suc place) rest) m (act literals own m line.op)

-- ---- the code behind a stop

abbrev pub code_if : Option Operation → List Line
code_if None = []
code_if (Some o) = o.code

abbrev pub variables_if : Option Operation → List StaticType
variables_if None = []
variables_if (Some o) = o.variables

abbrev pub operation_at : Parts → ℕ → Option Operation
operation_at p op = slice_get p.operations op

-- Behind the entry all named variables are there: the arguments, and nil where the code is to give a default.
abbrev pub opened : List Value → ℕ → List Value
opened arguments count = arguments ++ replicate (count - length arguments) Nil

abbrev pub variables_behind : Parts → CodeActivation → ℕ → List Value
variables_behind p a zero = opened a.variables (length (variables_if (operation_at p a.operation)))
variables_behind p a (suc at) = a.variables

abbrev pub machine_behind : Parts → Common → CodeActivation → Machine
machine_behind p c a = record { common = c; variables = variables_behind p a a.at; temporaries = a.temporaries }

abbrev pub rested : CodeActivation → Option Arrived → CodeActivation
rested a None = a
rested a (Some r) = record {
  operation = a.operation;
  own = a.own;
  at = r.place;
  stop = r.action;
  operands = r.operands;
  into = r.into;
  pending = true;
  variables = r.variables;
  temporaries = r.temporaries;
}

abbrev pub resting : CodeActivation → Common × Option Arrived → Common × CodeActivation
resting a (c, r) = (c, rested a r)

-- silent steps from behind a stop to the next one
abbrev pub code_silent : Parts → Common → CodeActivation → Common × CodeActivation
code_silent p c a =
    resting a
    (walk p.literals a.own (suc a.at) (drop (suc a.at) (code_if (operation_at p a.operation))) 0 (machine_behind p c a))

-- ---- the meaning of activations

abbrev pub with_result : CodeActivation → Variable → Value → CodeActivation
with_result a (Named n) v = record a { pending = false; into = None; variables = slice_set a.variables n v }
with_result a (Temporary d) v = record a { pending = false; into = None; temporaries = put a.temporaries d v }

abbrev pub into_variable : CodeActivation → Option Variable → Value → CodeActivation
into_variable a None v = record a { pending = false }
into_variable a (Some x) v = with_result a x v

-- a result goes into the variable that waits for it
abbrev pub finished : CodeActivation → Option Value → CodeActivation
finished a None = record a { pending = false }
finished a (Some v) = into_variable a a.into v

abbrev pub begun : ℕ → ℕ → List Value → CodeActivation
begun op own args = record {
  operation = op;
  own = own;
  at = 0;
  stop = stop.Entry;
  operands = [];
  into = None;
  pending = true;
  variables = args;
  temporaries = [];
}

abbrev pub code_meaning : ActivationMeaning CodeActivation
code_meaning = record {
  operation = λ a. a.operation;
  own = λ a. a.own;
  stop = λ a. a.stop;
  operands = λ a. a.operands;
  is_pending = λ a. a.pending;
  begun = begun;
  finished = finished;
}
