-- Programs of three-address code that name no number and no text out of range.
use Rattle.std.specs.Prelude.{List, FitsSigned}
use Rattle.std.specs.Int.{w32}
use Rattle.std.specs.List.{AllByRecursion as Each}
use Rattle.ec_code.specs.declared.code.Line.{Line}
use Rattle.ec_code.specs.declared.code.Op.{Op}
use Rattle.ec_code.specs.declared.code.Op.TheVariants as op
use Rattle.ec_code.specs.declared.code.Operand.{Operand}
use Rattle.ec_code.specs.declared.code.Operand.TheVariants as operand
use Rattle.ec_code.specs.declared.code.Operation.{Operation}
use Rattle.ec_code.specs.declared.code.Parts.{Parts}
use Rattle.ec_code.specs.declared.code.Test.{Test}
use Rattle.ec_code.specs.declared.code.Test.TheVariants as test
use Rattle.ec_code.specs.RangesValues.{IsText}

abbrev pub SmallOperand : Operand → Type 0
SmallOperand (operand.Number z) = FitsSigned w32 z
SmallOperand (operand.Of x) = Unit {0}
SmallOperand (operand.Truth b) = Unit {0}
SmallOperand operand.Nil = Unit {0}

abbrev pub SmallTest : Test → Type 0
SmallTest (test.Holds x) = SmallOperand x
SmallTest (test.Same x y) = SmallOperand x × SmallOperand y
SmallTest (test.Less x y) = SmallOperand x × SmallOperand y
SmallTest (test.LessEqual x y) = SmallOperand x × SmallOperand y
SmallTest (test.Divides x y) = SmallOperand x × SmallOperand y

-- each operand of a step
abbrev pub SmallOp : Op → Type 0
SmallOp (op.Copy to from) = SmallOperand from
SmallOp (op.SetField n from) = SmallOperand from
SmallOp (op.Compute how to left right) = SmallOperand left × SmallOperand right
SmallOp (op.Decide to t wanted) = SmallTest t
SmallOp (op.Branch t wanted over) = SmallTest t
SmallOp (op.Literal to index) = Unit {0}
SmallOp (op.Itself to) = Unit {0}
SmallOp (op.Field to n) = Unit {0}
SmallOp (op.Constant to index) = Unit {0}
SmallOp (op.Jump over) = Unit {0}
SmallOp (op.Again back) = Unit {0}
SmallOp (op.Rest row) = Unit {0}

abbrev pub SmallLine : Line → Type 0
SmallLine line = SmallOp line.op

abbrev pub SmallCode : List Line → Type 0
SmallCode = Each SmallLine

abbrev pub SmallOperation : Operation → Type 0
SmallOperation o = SmallCode o.code

-- each literal, and each number in the code of each operation
pub record SmallProgram (p : Parts) : Type 0 where
  pub literals : Each IsText p.literals
  pub operations : Each SmallOperation p.operations
