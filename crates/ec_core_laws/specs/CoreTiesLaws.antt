-- What ties the core of every program that breaks no static rule to its tree.
use Rattle.std.specs.Prelude.{◌≡◌, ◌<◌, All, List, [], length}
use Rattle.ec_ast.specs.declared.Program.{Program}
use Rattle.ec_check.specs.Places.{Env}
use Rattle.ec_check.specs.Program.{core_of}
use Rattle.ec_types.specs.Declarations.{declarations_of}
use Rattle.ec_types.specs.Table.{Table, IsTable}
use Rattle.ec_core.specs.declared.Class.{Class}
use Rattle.ec_core.specs.declared.Core.{Core}
use Rattle.ec_core_laws.specs.Targets.{HasTargets}
use Rattle.ec_core_laws.specs.Ties.{AreConstants}
use Rattle.ec_lexer.specs.declared.token.Token.{Token}
use Rattle.ec_parser.specs.HasTree.{HasTree}
use Rattle.ec_rules.specs.Faults.{StaticFaults, scope_of_program}
use Rattle.ec_rules.specs.Tree.{constant_parts}

-- outside every object
abbrev pub outermost : Table → Program → Env
outermost table program =
    record { scope = scope_of_program table (constant_parts program); captures = []; numbers = []; count = 0 }

-- The constants of the core are those of the program that have a value, and its classes and operations are all that stand within
-- the program, in the order of the text.
abbrev pub IsTied : Table → Program → Core → Type 0
IsTied table program core =
    AreConstants (outermost table program) 0 program.constants core.constants
    (record { classes = core.classes; operations = core.operations })

-- Its core is tied to its tree, where each assignment in the tree has a target.
abbrev pub EachCoreIsTied : Type 0
EachCoreIsTied =
    (table : Table) (program : Program) →
    IsTable (declarations_of program) table →
    StaticFaults table program ≡ [] →
    HasTargets program →
    IsTied table program (core_of table program)

-- The number of each of its classes, which is that of the type declared at its name, is one of a declared type.
abbrev pub EachClassIsDeclared : Type 0
EachClassIsDeclared =
    (table : Table) (program : Program) →
    IsTable (declarations_of program) table →
    StaticFaults table program ≡ [] →
    All (λ (c : Class). c.number < length table.places) (core_of table program).classes

-- Each assignment has a target, in the tree of each text.
abbrev pub EachAssignmentHasATarget : Type 0
EachAssignmentHasATarget = (tokens : List Token) (program : Program) → HasTree tokens program → HasTargets program
