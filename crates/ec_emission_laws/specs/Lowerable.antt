-- What lowering asks of a source, and how loops stand in the code that it makes.
use Rattle.std.specs.Prelude.{ℕ, All, Option, Some, None, slice_get}
use Rattle.ec_emission.specs.Agreement.{LoopsStand}
use Rattle.ec_check.specs.WellTyped.{IsWellTyped}
use Rattle.ec_code.specs.declared.code.Operation.{Operation as Made}
use Rattle.ec_code.specs.declared.code.Parts.{Parts}
use Rattle.ec_core.specs.declared.Block.{Block}
use Rattle.ec_core.specs.declared.Operation.{Operation}
use Rattle.ec_core_laws.specs.Headings.{HeadingFits}
use Rattle.ec_emission.proofs.Bodies.{IsLoop}
use Rattle.ec_emission.specs.Statements.{leave_ops}
use Rattle.ec_emission_laws.specs.Dropped.{DropsCalls}
use Rattle.ec_emission_laws.specs.Laws.{ExitsStandInLoops}
use Rattle.ec_meaning.specs.Programs.{Source, operation_at}
use Rattle.ec_meaning.specs.Steps.{captured_by}
use Rattle.ec_emission.specs.Ops.{ops}

-- what is asked of a source
pub record IsLowerable (s : Source) : Type 0 where
  -- Each operation has a variable for each parameter, and one for its result where it has one: behind the entry each
  -- argument has its variable.
  pub headings : All HeadingFits s.core.operations
  -- Each `exit` stands in a loop of its own operation: there is code to go to.
  pub exits : ExitsStandInLoops s.core
  -- Each part is well typed: an expression gives a value where one is wanted.
  pub well_typed : IsWellTyped s.table s.core
  -- What is dropped gives a value, or it is a call: there is a stop for it.
  pub drops : DropsCalls s.core

-- The loops in the code of an operation of a number, by the source's operation and the program's. The program's own
-- operation has none.
abbrev pub loop_in : Source → Parts → ℕ → Option Operation → Option Made → ℕ → ℕ → Block → Type 0
loop_in s p number (Some o) (Some m) top again b =
    IsLoop s number (captured_by s m.class) o.variables p.literals (leave_ops o) (ops m.code) top again b
loop_in s p number (Some o) None top again b = ⊥
loop_in s p number None made top again b = ⊥

abbrev pub lowered_loops : LoopsStand
lowered_loops =
    λ s p number top again b. loop_in s p number (operation_at s number) (slice_get p.operations number) top again b
