-- What is dropped in the core of every program that breaks no static rule.
use Rattle.std.specs.Prelude.{◌≡◌, []}
use Rattle.ec_ast.specs.declared.Program.{Program}
use Rattle.ec_check.specs.Program.{core_of}
use Rattle.ec_types.specs.Declarations.{declarations_of}
use Rattle.ec_types.specs.Table.{Table, IsTable}
use Rattle.ec_emission_laws.specs.Dropped.{DropsCalls}
use Rattle.ec_rules.specs.Faults.{StaticFaults}

-- Each expression that its operations drop gives a value, or it is a call.
abbrev pub EachDropGivesOrCalls : Type 0
EachDropGivesOrCalls =
    (table : Table) (program : Program) →
    IsTable (declarations_of program) table →
    StaticFaults table program ≡ [] →
    DropsCalls (core_of table program)
