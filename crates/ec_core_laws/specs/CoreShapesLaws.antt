-- What holds of the core, and of the table of types, of every program that breaks no static rule.
use Rattle.std.specs.Prelude.{◌≡◌, ◌≤◌, [], length}
use Rattle.ec_ast.specs.declared.Program.{Program}
use Rattle.ec_check.specs.Program.{core_of}
use Rattle.ec_types.specs.Conforms.{most_types}
use Rattle.ec_types.specs.Declarations.{declarations_of}
use Rattle.ec_types.specs.Table.{Table, IsTable}
use Rattle.ec_types.specs.Known.{NoneUnknown}
use Rattle.ec_core_laws.specs.Formed.{IsFormed}
use Rattle.ec_rules.specs.Faults.{StaticFaults}

-- Each part of its core is formed, and each type there is one of the table.
abbrev pub EachCoreIsFormed : Type 0
EachCoreIsFormed =
    (table : Table) (program : Program) →
    IsTable (declarations_of program) table →
    StaticFaults table program ≡ [] →
    IsFormed (length table.types) (core_of table program)

-- Each operation that its types declare takes and gives types of the table.
abbrev pub EachDeclaredTypeIsKnown : Type 0
EachDeclaredTypeIsKnown =
    (table : Table) (program : Program) →
    IsTable (declarations_of program) table →
    StaticFaults table program ≡ [] →
    NoneUnknown table.types

-- It has at most 1,000 types.
abbrev pub EachTableIsSmall : Type 0
EachTableIsSmall =
    (table : Table) (program : Program) →
    IsTable (declarations_of program) table →
    StaticFaults table program ≡ [] →
    length table.types ≤ most_types
