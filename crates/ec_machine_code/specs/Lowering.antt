-- Which steps on words stand for a step of three-address code, by the homes of variables: at most one step, and at most one way of
-- going on behind it.
use Rattle.std.specs.Prelude.{ℕ, ◌==◌, Bool, true, false, not, if◌then◌else◌, List, [], ◌∷◌, Option, Some, None}
use Rattle.std.specs.Int.{w32, cast_unsigned, from_bool}
use Rattle.ec_code.specs.declared.code.Op.{Op}
use Rattle.ec_code.specs.declared.code.Op.TheVariants as op
use Rattle.ec_code.specs.declared.code.Operand.{Operand}
use Rattle.ec_code.specs.declared.code.Operand.TheVariants as operand
use Rattle.ec_code.specs.declared.code.Test.{Test}
use Rattle.ec_code.specs.declared.code.Test.TheVariants as test
use Rattle.ec_code.specs.declared.code.Variable.{Variable}
use Rattle.ec_machine_code.specs.declared.homes.Home.{Home}
use Rattle.ec_machine_code.specs.declared.homes.Home.TheVariants.{Register, Slot}
use Rattle.ec_machine_code.specs.Micro.{related}
use Rattle.ec_machine_code.specs.declared.step.Ending.{Ending}
use Rattle.ec_machine_code.specs.declared.step.Ending.TheVariants as ending
use Rattle.ec_machine_code.specs.declared.step.Question.{Question}
use Rattle.ec_machine_code.specs.declared.step.Relation.{Relation}
use Rattle.ec_machine_code.specs.declared.step.Relation.TheVariants.{Same, Less}
use Rattle.ec_machine_code.specs.declared.step.Source.{Source}
use Rattle.ec_machine_code.specs.declared.step.Source.TheVariants as source
use Rattle.ec_machine_code.specs.declared.step.Step.{Step}
use Rattle.ec_machine_code.specs.declared.step.Step.TheVariants as step
use Rattle.ec_world.specs.Same.{is_same_truth}

abbrev pub is_same_home : Home → Home → Bool
is_same_home (Register k) (Register j) = k == j
is_same_home (Slot n) (Slot m) = n == m
is_same_home _ _ = false

-- the source is this home
abbrev pub is_there : Home → Source → Bool
is_there into (source.Home h) = is_same_home into h
is_there into (source.Word n) = false

-- A home that has the word already needs no step.
abbrev pub moved : Home → Source → List Step
moved into from = if is_there into from then [] else step.Move into from ∷ []

abbrev pub nothing : Source
nothing = source.Word 0

abbrev pub question : Relation → Source → Source → Bool → Question
question relation left right wanted = record { relation = relation; left = left; right = right; wanted = wanted }

-- the question that is answered with yes where this one is answered with no
abbrev pub opposite : Question → Question
opposite q = question q.relation q.left q.right (not q.wanted)

-- the answer to a question of two numbers, which is known when code is made
abbrev pub known_by : Relation → Bool → Source → Source → Option Bool
known_by relation wanted (source.Home h) right = None
known_by relation wanted (source.Word a) (source.Home h) = None
known_by relation wanted (source.Word a) (source.Word b) = Some (is_same_truth wanted (related relation a b))

abbrev pub known : Question → Option Bool
known q = known_by q.relation q.wanted q.left q.right

-- A question whose answer is known isn't asked: yes is a jump, and no is nothing.
abbrev pub branch_by : Option Bool → Question → ℕ → Option Ending
branch_by None q over = Some (ending.Branch q over)
branch_by (Some true) q over = Some (ending.Jump over)
branch_by (Some false) q over = None

abbrev pub branch : Question → ℕ → Option Ending
branch q over = branch_by (known q) q over

module _ (home : Variable → Home) where
  abbrev pub source_of : Operand → Source
  source_of (operand.Of x) = source.Home (home x)
  source_of (operand.Number z) = source.Word (cast_unsigned w32 z)
  source_of (operand.Truth b) = source.Word (from_bool b)
  source_of operand.Nil = nothing

  -- A truth value is true where it isn't 0. The first is at most the second where the second isn't below the first.
  abbrev pub question_of : Test → Bool → Question
  question_of (test.Holds x) wanted = question Same (source_of x) nothing (not wanted)
  question_of (test.Same x y) wanted = question Same (source_of x) (source_of y) wanted
  question_of (test.Less x y) wanted = question Less (source_of x) (source_of y) wanted
  question_of (test.LessEqual x y) wanted = question Less (source_of y) (source_of x) (not wanted)
  question_of (test.Divides x y) wanted = question Same (source_of y) nothing (not wanted)

  -- A literal stands in the pool at its place among the literals.
  abbrev pub steps_of : Op → List Step
  steps_of (op.Copy to from) = moved (home to) (source_of from)
  steps_of (op.Literal to index) = step.Move (home to) (source.Word index) ∷ []
  steps_of (op.Itself to) = step.Itself (home to) ∷ []
  steps_of (op.Field to field) = step.Field (home to) field ∷ []
  steps_of (op.SetField field from) = step.SetField field (source_of from) ∷ []
  steps_of (op.Constant to index) = step.Constant (home to) index ∷ []
  steps_of (op.Compute how to left right) = step.Work how (home to) (source_of left) (source_of right) ∷ []
  steps_of (op.Decide to t wanted) = step.Decide (home to) (question_of t wanted) ∷ []
  steps_of (op.Branch t wanted over) = []
  steps_of (op.Jump over) = []
  steps_of (op.Again back) = []
  steps_of (op.Rest row) = []

  abbrev pub ending_of : Op → Option Ending
  ending_of (op.Branch t wanted over) = branch (question_of t wanted) over
  ending_of (op.Jump over) = Some (ending.Jump over)
  ending_of (op.Again back) = Some (ending.Again back)
  ending_of (op.Rest row) = Some ending.Stop
  ending_of _ = None
