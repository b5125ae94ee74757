-- Further limits of the core of every program that breaks no static rule.
use Rattle.std.specs.Prelude.{◌≡◌, ◌≤◌, All, List, [], length}
use Rattle.ec_ast.specs.declared.Program.{Program}
use Rattle.ec_check.specs.Program.{core_of}
use Rattle.ec_types.specs.Declarations.{declarations_of}
use Rattle.ec_types.specs.Table.{Table, IsTable}
use Rattle.ec_core_laws.specs.Constants.{HasSmallConstants}
use Rattle.ec_core_laws.specs.Limits.{HasFewFields, HasFewParameters, captured_by, captures_of_core, size_of_core}
use Rattle.ec_lexer.specs.declared.token.Token.{Token}
use Rattle.ec_parser.specs.HasTree.{HasTree}
use Rattle.ec_rules.specs.Faults.{StaticFaults}

abbrev pub EachClassHasFewFields : Type 0
EachClassHasFewFields =
    (table : Table) (program : Program) →
    IsTable (declarations_of program) table →
    StaticFaults table program ≡ [] →
    All HasFewFields (core_of table program).classes

abbrev pub EachOperationHasFewParameters : Type 0
EachOperationHasFewParameters =
    (table : Table) (program : Program) →
    IsTable (declarations_of program) table →
    StaticFaults table program ≡ [] →
    All HasFewParameters (core_of table program).operations

-- The values of the constants have at most 4,000 nodes together, and there are no more of them.
abbrev pub ConstantsAreSmall : Type 0
ConstantsAreSmall =
    (table : Table) (program : Program) →
    StaticFaults table program ≡ [] →
    HasSmallConstants (core_of table program)

-- Each object constructor is one class: all together they capture no more values than the classes capture names. This holds of each
-- program of a text.
abbrev pub EachValueIsCapturedOnce : Type 0
EachValueIsCapturedOnce =
    (table : Table) (tokens : List Token) (program : Program) →
    StaticFaults table program ≡ [] →
    HasTree tokens program →
    captures_of_core (core_of table program) ≤ captured_by (core_of table program).classes

-- Each node has a token of its own.
abbrev pub EachNodeHasAToken : Type 0
EachNodeHasAToken =
    (table : Table) (tokens : List Token) (program : Program) →
    StaticFaults table program ≡ [] →
    HasTree tokens program →
    size_of_core (core_of table program) ≤ length tokens
