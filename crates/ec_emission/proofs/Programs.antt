-- Each source is lowered to a program: only the lists of live variables are not given by cases.
use Rattle.std.proofs.Common.{List, [], ◌∷◌, length, None, true, refl, arith}
use Rattle.ec_code.specs.declared.code.Line.{Line}
use Rattle.ec_code.specs.declared.code.Op.{Op}
use Rattle.ec_code.specs.declared.code.Operation.{Operation as Made}
use Rattle.ec_code.specs.declared.code.Parts.{Parts}
use Rattle.ec_core.specs.declared.Operation.{Operation}
use Rattle.ec_code.proofs.LiveListsLists.{live_lists}
use Rattle.ec_emission.specs.Literals.{literals_of}
use Rattle.ec_emission.specs.Statements.{operation_ops, program_ops}
use Rattle.ec_emission.specs.Lowered.{HasLines, IsOperationOf, IsProgramOf, IsLowered, around, class_of_operation, constant_types}
use Rattle.ec_emission.specs.Lowered.{is_process, parameter_types, result_type}
use Rattle.ec_emission.specs.Types.{Around, lines_of}
use Rattle.ec_meaning.specs.Programs.{Source, classes_of}
use Rattle.ec_meaning.specs.Steps.{captured_by}
use Rattle.ec_world.specs.Agree.{AllTwo}
use Rattle.ec_world.specs.declared.class.ClassNo.TheVariants.{Program}

has_lines : (w : Around) (ops : List Op) → (code : List Line) × HasLines w ops code
has_lines w ops =
    let lists = live_lists ops (length ops) 0 in
    let lines = lines_of w [] ops lists.0 in
    (lines, record { lists = lists.0; count = lists.1; live = λ q xs is. lists.2 q q xs (omega arith) is; lines = refl })

operation_of : (s : Source) (o : Operation) → (made : Made) × IsOperationOf s o made
operation_of s o =
    let class = class_of_operation s o in
    let ops = operation_ops s (captured_by s class) (literals_of s.core) o in
    let code = has_lines (around s class o.variables) ops in
    let made : Made = record {
      class = class;
      parameters = parameter_types o;
      result = result_type o.kind o;
      is_lowest = is_process o.kind;
      variables = o.variables;
      code = code.0;
    } in (
      made,
      record {
        class = refl;
        parameters = refl;
        result = refl;
        is_lowest = refl;
        variables = refl;
        code = code.1;
      },
    )

operations_of : (s : Source) (os : List Operation) → (made : List Made) × AllTwo (IsOperationOf s) os made
operations_of s [] = ([], tt)
operations_of s (o ∷ os) =
    let made = operation_of s o in
    let rest = operations_of s os in
    (made.0 ∷ rest.0, (made.1, rest.1))

program_of : (s : Source) → (made : Made) × IsProgramOf s made
program_of s =
    let code = has_lines (around s Program []) (program_ops s (literals_of s.core)) in
    let made : Made = record {
      class = Program;
      parameters = [];
      result = None;
      is_lowest = true;
      variables = [];
      code = code.0;
    } in (
      made,
      record {
        class = refl;
        parameters = refl;
        result = refl;
        is_lowest = refl;
        variables = refl;
        code = code.1;
      },
    )

pub lowered : (s : Source) → (p : Parts) × IsLowered s p
lowered s =
    let own = program_of s in
    let others = operations_of s s.core.operations in
    let parts : Parts = record {
      classes = classes_of s;
      constants = constant_types s.core;
      literals = literals_of s.core;
      operations = own.0 ∷ others.0;
    } in
    (parts, record { classes = refl; constants = refl; literals = refl; operations = (own.1, others.1) })
