-- What holds of every program that breaks no static rule.
use Rattle.std.specs.Prelude.{◌≡◌, true, is_some, map, All, []}
use Rattle.ec_ast.specs.declared.Program.{Program}
use Rattle.ec_check.specs.Numbers.{IsInRange}
use Rattle.ec_check.specs.Operations.{HasItsOperations}
use Rattle.ec_check.specs.Program.{core_of, types_of_program}
use Rattle.ec_check.specs.WellTyped.{IsWellTyped}
use Rattle.ec_types.specs.Declarations.{declarations_of}
use Rattle.ec_types.specs.Table.{Table, IsTable}
use Rattle.ec_types.specs.Types.{places_of}
use Rattle.ec_places.specs.Rising.{IsRising}
use Rattle.ec_rules.specs.Faults.{StaticFaults}

-- Each of its expressions has its type.
abbrev pub EachHasItsType : Type 0
EachHasItsType =
    (table : Table) (program : Program) →
    IsTable (declarations_of program) table →
    StaticFaults table program ≡ [] →
    All (λ of. is_some of ≡ true) (types_of_program table program)

-- Each number in its core is that of something which is there.
abbrev pub EachNumberIsInRange : Type 0
EachNumberIsInRange =
    (table : Table) (program : Program) →
    IsTable (declarations_of program) table →
    StaticFaults table program ≡ [] →
    IsInRange (core_of table program)

-- Its core is well typed.
abbrev pub EachCoreIsWellTyped : Type 0
EachCoreIsWellTyped =
    (table : Table) (program : Program) →
    IsTable (declarations_of program) table →
    StaticFaults table program ≡ [] →
    IsWellTyped table (core_of table program)

-- No two of its classes have one number: they rise in the order of the text, where the places of its types' names do.
abbrev pub EachClassHasItsNumber : Type 0
EachClassHasItsNumber =
    (table : Table) (program : Program) →
    IsTable (declarations_of program) table →
    IsRising (places_of (declarations_of program).types) →
    IsRising (map (λ c. c.number) (core_of table program).classes)

-- Each of its classes has the operations that its type has, and no two of one name.
abbrev pub EachClassHasItsOperations : Type 0
EachClassHasItsOperations =
    (table : Table) (program : Program) →
    IsTable (declarations_of program) table →
    StaticFaults table program ≡ [] →
    IsRising (places_of (declarations_of program).types) →
    All (HasItsOperations table (core_of table program)) (core_of table program).classes
