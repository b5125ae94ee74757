-- What is known of a program that breaks no static rule, and of one that breaks one.
use Rattle.std.specs.Prelude.{◌≡◌, true, is_some, All, List, [], map, Some, slice_get}
use Rattle.ec_ast.specs.declared.Program.{Program}
use Rattle.ec_check.specs.Numbers.{IsInRange}
use Rattle.ec_check.specs.Operations.{HasItsOperations}
use Rattle.ec_check.specs.Program.{core_of, types_of_program}
use Rattle.ec_check.specs.WellTyped.{IsWellTyped}
use Rattle.ec_check.specs.declared.check.CheckError.{CheckError}
use Rattle.ec_check.specs.declared.check.CheckError.TheVariants.{Fault, Memory}
use Rattle.ec_types.specs.Declarations.{declarations_of}
use Rattle.ec_types.specs.Table.{Table, IsTable}
use Rattle.ec_types.specs.Types.{places_of}
use Rattle.ec_core.specs.declared.Class.{Class}
use Rattle.ec_core.specs.declared.Core.{Core}
use Rattle.ec_places.specs.Rising.{IsRising}
use Rattle.ec_rules.specs.Faults.{HasFaults, StaticFaults}
use Rattle.ec_rules.specs.declared.StaticFault.{StaticFault}

-- By the table of its types, the program breaks no static rule, each of its expressions has its type, and this is its core,
-- which is well typed, and in which each number is in range. Where the names of its types stand at rising places, as they do in
-- each text, the numbers of its classes rise, and each class has the operations of its type.
pub record HasCore (program : Program) (table : Table) (core : Core) : Type 0 where
  pub is_table : IsTable (declarations_of program) table
  pub accepted : StaticFaults table program ≡ []
  pub typed : All (λ of. is_some of ≡ true) (types_of_program table program)
  pub resolved : core ≡ core_of table program
  pub numbered : IsInRange core
  pub well_typed : IsWellTyped table core
  pub classes : IsRising (places_of (declarations_of program).types) → IsRising (map (λ (c : Class). c.number) core.classes)
  pub operations : IsRising (places_of (declarations_of program).types) → All (HasItsOperations table core) core.classes

-- the first of a program's static faults
abbrev pub IsFirst : Program → StaticFault → Type 0
IsFirst program fault = (faults : List StaticFault) × HasFaults program faults × (slice_get faults 0 ≡ Some fault)

-- The error is the first static fault, or want of memory.
abbrev pub IsRefused : Program → CheckError → Type 0
IsRefused program (Fault fault) = IsFirst program fault
IsRefused program Memory = Unit {0}
