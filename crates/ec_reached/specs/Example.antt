-- A program in whose runs an activation waits below another one, and a process waits for a condition: it makes an object of a monitored
-- class, and invokes the operation of it, which waits.
use Rattle.std.specs.Prelude.{◌≡◌, ℕ, true, false, [], ◌∷◌, Some, None, replicate}
use Rattle.ec_code.specs.SoundLaws.{world_after}
use Rattle.ec_code.specs.Typing.{any}
use Rattle.ec_code.specs.declared.activation.CodeActivation.{CodeActivation}
use Rattle.ec_code.specs.declared.code.Line.{Line}
use Rattle.ec_code.specs.declared.code.Op.TheVariants as op
use Rattle.ec_code.specs.declared.code.Operation.{Operation}
use Rattle.ec_code.specs.declared.code.Parts.{Parts}
use Rattle.ec_code.specs.declared.code.StopRow.{StopRow}
use Rattle.ec_code.specs.declared.code.Variable.TheVariants.{Temporary}
use Rattle.ec_code.specs.Example.{row}
use Rattle.ec_monitors.specs.declared.record.Hold.{Hold}
use Rattle.ec_world.specs.declared.class.ClassNo.TheVariants.{Made, Program}
use Rattle.ec_world.specs.declared.class.ClassRec.{ClassRec}
use Rattle.ec_world.specs.declared.process.ProcStatus.TheVariants.{Cond}
use Rattle.ec_world.specs.declared.run.RunEntry.TheVariants.{TurnOf}
use Rattle.ec_world.specs.declared.stop.Stop.TheVariants as stop
use Rattle.ec_world.specs.declared.world.World.{World}
use Rattle.ec_world.specs.Outcomes.{monitor_of}
use Rattle.ec_world.specs.Run.{statuses_of}
use Rattle.ec_reached.specs.Code.{StopsFit}

-- a line with a stop
abbrev pub rests : StopRow → Line
rests r = record { op = op.Rest r; live = [] }

-- a creation, whose object is held
abbrev pub made_row : StopRow
made_row = record (row (stop.New (Made 0)) []) { gives = Some any; into = Some (Temporary 0) }

abbrev pub main : Operation
main = record {
  class = Program;
  parameters = [];
  result = None;
  is_lowest = true;
  variables = [];
  code =
      rests (row stop.Entry [])
      ∷ rests made_row
      ∷ rests (row (stop.Invoke 0 1) (Temporary 0 ∷ []))
      ∷ rests (row stop.End [])
      ∷ [];
}

abbrev pub first_operation : Operation
first_operation = record {
  class = Made 0;
  parameters = [];
  result = Some any;
  is_lowest = false;
  variables = [];
  code = rests (row stop.Entry []) ∷ rests (row (stop.Return true) []) ∷ [];
}

abbrev pub waiting_operation : Operation
waiting_operation = record {
  class = Made 0;
  parameters = [];
  result = None;
  is_lowest = false;
  variables = [];
  code = rests (row stop.Entry []) ∷ rests (row (stop.Wait 0) []) ∷ rests (row (stop.Return false) []) ∷ [];
}

abbrev pub class : ClassRec
class = record {
  name = [];
  initial = 1;
  process = None;
  monitored = true;
  conditions = 1;
  fields = [];
  operations = record { name = 0; operation = 2 } ∷ [];
  conforms = [];
}

abbrev pub waiting : Parts
waiting = record { classes = class ∷ []; constants = []; literals = []; operations = main ∷ first_operation ∷ waiting_operation ∷ [] }

-- on one node, after so many turns of process 0
abbrev pub after : ℕ → World CodeActivation
after n = world_after waiting 1 (replicate n (TurnOf 0))

-- process 0 is within, one deep
abbrev pub hold : Hold
hold = record { process = 0; depth = 1 }

-- What is asked of code is met by the program. After six turns its object's monitor is held, one deep; after seven, the process waits.
pub record ExampleIsMet : Type 0 where
  pub fits : StopsFit waiting
  pub held : monitor_of (after 6).common 3 ≡ Some (record { holder = Some hold; entry = []; urgent = []; conditions = [] ∷ [] })
  pub waits : monitor_of (after 7).common 3 ≡ Some (record { holder = None; entry = []; urgent = []; conditions = (hold ∷ []) ∷ [] })
  pub blocked : statuses_of (after 7) ≡ Cond 3 ∷ []
