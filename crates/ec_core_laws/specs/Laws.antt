-- What holds of the core of every program that breaks no static rule.
use Rattle.std.specs.Prelude.{◌≡◌, ℕ, false, All, List, []}
use Rattle.ec_ast.specs.declared.Program.{Program}
use Rattle.ec_check.specs.Program.{core_of}
use Rattle.ec_types.specs.Declarations.{declarations_of}
use Rattle.ec_types.specs.Table.{Table, IsTable}
use Rattle.ec_types.specs.Types.{places_of}
use Rattle.ec_core.specs.declared.Operation.{Operation}
use Rattle.ec_core_laws.specs.Beginnings.{BeginsOnce}
use Rattle.ec_core_laws.specs.Counts.{HasFewParts}
use Rattle.ec_core_laws.specs.Exits.{leaves_block}
use Rattle.ec_core_laws.specs.Headings.{HeadingFits}
use Rattle.ec_core_laws.specs.Known.{KnowsItsTypes}
use Rattle.ec_core_laws.specs.KnownPlaces.{KnowsItsPlaces}
use Rattle.ec_core_laws.specs.Literals.{HasShortTexts}
use Rattle.ec_core_laws.specs.Measures.{IsSmall}
use Rattle.ec_core_laws.specs.Numbers.{HasSmallIntegers}
use Rattle.ec_core_laws.specs.TreeNumbers.{HasSmallNumbers}
use Rattle.ec_core_laws.specs.Waiting.{UsesItsConditions}
use Rattle.ec_lexer.specs.Tokens.{HasTokens}
use Rattle.ec_lexer.specs.declared.token.Token.{Token}
use Rattle.ec_parser.specs.HasTree.{HasTree}
use Rattle.ec_places.specs.Rising.{IsRising}
use Rattle.ec_rules.specs.Faults.{StaticFaults}

-- Each of its operations has variables for its parameters and its result.
abbrev pub EachHeadingFits : Type 0
EachHeadingFits =
    (table : Table) (program : Program) →
    IsTable (declarations_of program) table →
    StaticFaults table program ≡ [] →
    All HeadingFits (core_of table program).operations

-- Each `exit` in its operations stands in a loop there.
abbrev pub EachExitStandsInALoop : Type 0
EachExitStandsInALoop =
    (table : Table) (program : Program) →
    IsTable (declarations_of program) table →
    StaticFaults table program ≡ [] →
    All (λ (o : Operation). leaves_block o.block ≡ false) (core_of table program).operations

-- Each of its operations waits on and signals conditions of its own monitored class alone, and no process section does.
abbrev pub EachUsesItsConditions : Type 0
EachUsesItsConditions =
    (table : Table) (program : Program) →
    IsTable (declarations_of program) table →
    StaticFaults table program ≡ [] →
    All (UsesItsConditions (core_of table program).classes) (core_of table program).operations

-- Each of its classes has one operation 0, and at most one process section, where the places of its types' names rise.
abbrev pub EachClassBeginsOnce : Type 0
EachClassBeginsOnce =
    (table : Table) (program : Program) →
    IsTable (declarations_of program) table →
    StaticFaults table program ≡ [] →
    IsRising (places_of (declarations_of program).types) →
    All (BeginsOnce (core_of table program).operations) (core_of table program).classes

-- Each of its operations has no more nodes, and no more variables and values at one time, than the static rules allow.
abbrev pub EachOperationIsSmall : Type 0
EachOperationIsSmall =
    (table : Table) (program : Program) →
    IsTable (declarations_of program) table →
    StaticFaults table program ≡ [] →
    All IsSmall (core_of table program).operations

-- It has at most 1,000 classes and 4,000 operations.
abbrev pub EachCountIsSmall : Type 0
EachCountIsSmall =
    (table : Table) (program : Program) →
    IsTable (declarations_of program) table →
    StaticFaults table program ≡ [] →
    HasFewParts (core_of table program)

-- Each of its literal texts has at most 65,535 bytes.
abbrev pub EachTextIsShort : Type 0
EachTextIsShort =
    (table : Table) (program : Program) →
    IsTable (declarations_of program) table →
    StaticFaults table program ≡ [] →
    HasShortTexts (core_of table program)

-- No type in its code is unknown.
abbrev pub EachTypeInCodeIsKnown : Type 0
EachTypeInCodeIsKnown =
    (table : Table) (program : Program) →
    IsTable (declarations_of program) table →
    StaticFaults table program ≡ [] →
    KnowsItsTypes (core_of table program)

-- No type of a variable, a field, a captured name or a constant is unknown.
abbrev pub EachTypeOfAPlaceIsKnown : Type 0
EachTypeOfAPlaceIsKnown =
    (table : Table) (program : Program) →
    IsTable (declarations_of program) table →
    StaticFaults table program ≡ [] →
    KnowsItsPlaces (core_of table program)

-- Where each number in a program is below 2^31, each number in its core is. This holds of all programs.
abbrev pub EachNumberIsSmall : Type 0
EachNumberIsSmall =
    (table : Table) (program : Program) →
    HasSmallNumbers program →
    HasSmallIntegers (core_of table program)

-- Each number in a program of a text is below 2^31.
abbrev pub EachNumberOfATextIsSmall : Type 0
EachNumberOfATextIsSmall =
    (text : List ℕ) (tokens : List Token) (program : Program) →
    HasTokens text tokens →
    HasTree tokens program →
    HasSmallNumbers program
