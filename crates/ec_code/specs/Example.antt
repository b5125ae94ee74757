-- A program that is well typed: it divides 7 by 2, which fails where the divisor is 0, and prints what comes out.
use Rattle.std.specs.Prelude.{true, false, List, [], ◌∷◌, Some, None, pos}
use Rattle.ec_code.specs.declared.code.Arithmetic.TheVariants.{Quotient}
use Rattle.ec_code.specs.declared.code.Line.{Line}
use Rattle.ec_code.specs.declared.code.Live.{Live}
use Rattle.ec_code.specs.declared.code.Op.TheVariants as op
use Rattle.ec_code.specs.declared.code.Operand.TheVariants as operand
use Rattle.ec_code.specs.declared.code.Operation.{Operation}
use Rattle.ec_code.specs.declared.code.Parts.{Parts}
use Rattle.ec_code.specs.declared.code.StopRow.{StopRow}
use Rattle.ec_code.specs.declared.code.Test.TheVariants as test
use Rattle.ec_code.specs.declared.code.Variable.{Variable}
use Rattle.ec_code.specs.declared.code.Variable.TheVariants.{Named, Temporary}
use Rattle.ec_code.specs.Typing.{Declared, integer, string}
use Rattle.ec_world.specs.declared.class.ClassNo.TheVariants.{Program}
use Rattle.ec_world.specs.declared.process.Cause.TheVariants as cause
use Rattle.ec_world.specs.declared.stop.Stop.{Stop}
use Rattle.ec_world.specs.declared.stop.Stop.TheVariants as stop

-- a stop that gives nothing
abbrev pub row : Stop → List Variable → StopRow
row action operands = record { stop = action; on_itself = false; operands = operands; gives = None; into = None }

-- the text of a number, which is held
abbrev pub text_row : StopRow
text_row =
    record { stop = stop.AsString; on_itself = false; operands = Named 0 ∷ []; gives = Some string; into = Some (Temporary 0) }

-- a number that is held, its quotient in a variable, and the text of this, which is held in the place of the number
abbrev pub number_held : Live
number_held = record { variable = Temporary 0; of = integer }

abbrev pub number_named : Live
number_named = record { variable = Named 0; of = integer }

abbrev pub text_held : Live
text_held = record { variable = Temporary 0; of = string }

abbrev pub lines : List Line
lines =
    record { op = op.Rest (row stop.Entry []); live = [] }
    ∷ record { op = op.Copy (Temporary 0) (operand.Number (pos 7)); live = [] }
    ∷ record { op = op.Branch (test.Divides (operand.Of (Temporary 0)) (operand.Number (pos 2))) true 1; live = number_held ∷ [] }
    ∷ record { op = op.Rest (row (stop.Fail cause.ZeroDivisor 1) []); live = [] }
    ∷ record {
      op = op.Compute Quotient (Named 0) (operand.Of (Temporary 0)) (operand.Number (pos 2));
      live = number_held ∷ [];
    }
    ∷ record { op = op.Rest text_row; live = number_named ∷ [] }
    ∷ record { op = op.Rest (row stop.Print (Temporary 0 ∷ [])); live = text_held ∷ [] }
    ∷ record { op = op.Rest (row stop.End []); live = [] }
    ∷ []

abbrev pub main_operation : Operation
main_operation =
    record { class = Program; parameters = []; result = None; is_lowest = true; variables = integer ∷ []; code = lines }

abbrev pub nothing_declared : Declared
nothing_declared = record { types = []; names = []; classes = [] }

abbrev pub dividing : Parts
dividing = record { classes = []; constants = []; literals = [] ∷ []; operations = main_operation ∷ [] }
