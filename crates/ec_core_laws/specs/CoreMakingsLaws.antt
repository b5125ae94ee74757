-- What holds of the core of every program that breaks no static rule.
use Rattle.std.specs.Prelude.{◌≡◌, []}
use Rattle.ec_ast.specs.declared.Program.{Program}
use Rattle.ec_check.specs.Program.{core_of}
use Rattle.ec_types.specs.Declarations.{declarations_of}
use Rattle.ec_types.specs.Table.{Table, IsTable}
use Rattle.ec_types.specs.Types.{places_of}
use Rattle.ec_core_laws.specs.Makings.{IsMadeRight}
use Rattle.ec_places.specs.Rising.{IsRising}
use Rattle.ec_rules.specs.Faults.{StaticFaults}

-- Each object is made in the way that fits its class, where the places of the types' names rise, so that no two classes
-- have one number; and what makes an object and what is a process section has no parameters and no result.
abbrev pub EachCoreIsMadeRight : Type 0
EachCoreIsMadeRight =
    (table : Table) (program : Program) →
    IsTable (declarations_of program) table →
    IsRising (places_of (declarations_of program).types) →
    StaticFaults table program ≡ [] →
    IsMadeRight (core_of table program)
