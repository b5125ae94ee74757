-- What the typing of the code of a source rests on. It holds of each accepted program.
use Rattle.std.specs.Prelude.{◌≡◌, ◌↔◌, ◌≤◌, true, false, length, map, All}
use Rattle.ec_check.specs.Operations.{HasItsOperations}
use Rattle.ec_check.specs.WellTyped.{IsWellTyped}
use Rattle.ec_types.specs.Conforms.{Conforms, most_types}
use Rattle.ec_types.specs.Table.{conforms}
use Rattle.ec_types.specs.declared.conform.static_type.StaticType.{StaticType}
use Rattle.ec_types.specs.Known.{NoneUnknown}
use Rattle.ec_core.specs.declared.Class.{Class}
use Rattle.ec_core.specs.declared.Operation.{Operation}
use Rattle.ec_core_laws.specs.Beginnings.{BeginsOnce}
use Rattle.ec_core_laws.specs.Exits.{leaves_block}
use Rattle.ec_core_laws.specs.Headings.{HeadingFits}
use Rattle.ec_core_laws.specs.Waiting.{UsesItsConditions}
use Rattle.ec_core_laws.specs.Makings.{IsMadeRight}
use Rattle.ec_core_laws.specs.Formed.{IsFormed}
use Rattle.ec_emission_laws.specs.Dropped.{DropsCalls}
use Rattle.ec_meaning.specs.Programs.{Source}
use Rattle.ec_places.specs.Rising.{IsRising}

pub record IsSound (s : Source) : Type 0 where
  -- the table answers what conforms; its types are known, and few
  pub answers : (a b : StaticType) → (conforms s.table a b ≡ true) ↔ Conforms s.table.types a b
  pub known : NoneUnknown s.table.types
  pub few : length s.table.types ≤ most_types
  -- the core is well typed, its types are of the program, and its objects made as their classes say
  pub well : IsWellTyped s.table s.core
  pub formed : IsFormed (length s.table.types) s.core
  pub made : IsMadeRight s.core
  -- its classes
  pub numbers : IsRising (map (λ (c : Class). c.number) s.core.classes)
  pub operations : All (HasItsOperations s.table s.core) s.core.classes
  pub begins : All (BeginsOnce s.core.operations) s.core.classes
  -- its operations
  pub headings : All HeadingFits s.core.operations
  pub uses : All (UsesItsConditions s.core.classes) s.core.operations
  pub exits : All (λ (o : Operation). leaves_block o.block ≡ false) s.core.operations
  pub drops : DropsCalls s.core
