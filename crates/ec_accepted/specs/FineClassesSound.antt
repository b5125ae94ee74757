-- What the typing of a source's classes rests on. It holds of the core of every accepted program.
use Rattle.std.specs.Prelude.{◌≡◌, ◌↔◌, ◌<◌, true, map, length, All}
use Rattle.ec_check.specs.Operations.{HasItsOperations}
use Rattle.ec_types.specs.Conforms.{Conforms}
use Rattle.ec_types.specs.Table.{conforms}
use Rattle.ec_types.specs.declared.conform.static_type.StaticType.{StaticType}
use Rattle.ec_types.specs.Known.{IsOfProgram}
use Rattle.ec_core.specs.declared.Class.{Class}
use Rattle.ec_core.specs.declared.Constant.{Constant}
use Rattle.ec_core.specs.declared.Field.{Field}
use Rattle.ec_core.specs.declared.Kind.{Kind}
use Rattle.ec_core.specs.declared.Kind.TheVariants as kind
use Rattle.ec_core.specs.declared.Operation.{Operation}
use Rattle.ec_core_laws.specs.Beginnings.{BeginsOnce}
use Rattle.ec_meaning.specs.Programs.{Source}
use Rattle.ec_places.specs.Rising.{IsRising}

-- the types of what an object of a class keeps are of the program
pub record KeepsTypes (s : Source) (c : Class) : Type 0 where
  pub captured : All (IsOfProgram s.table.types) c.captured
  pub fields : All (λ (f : Field). IsOfProgram s.table.types f.of) c.fields

-- an operation of this kind takes nothing: the making of an object, or a process section
abbrev pub TakesNothingAs : Kind → Operation → Type 0
TakesNothingAs kind.Named o = Unit {0}
TakesNothingAs kind.Initial o = o.parameters ≡ 0
TakesNothingAs kind.Process o = o.parameters ≡ 0

abbrev pub TakesNothing : Operation → Type 0
TakesNothing o = TakesNothingAs o.kind o

pub record HasSoundClasses (s : Source) : Type 0 where
  -- no two classes have one number
  pub numbers : IsRising (map (λ (c : Class). c.number) s.core.classes)
  -- which is that of a type
  pub types : All (λ (c : Class). c.number < length s.table.types) s.core.classes
  pub keeps : All (KeepsTypes s) s.core.classes
  pub constants : All (λ (c : Constant). IsOfProgram s.table.types c.of) s.core.constants
  pub operations : All (HasItsOperations s.table s.core) s.core.classes
  pub begins : All (BeginsOnce s.core.operations) s.core.classes
  pub beginnings : All TakesNothing s.core.operations
  -- the table answers what conforms
  pub answers : (a b : StaticType) → (conforms s.table a b ≡ true) ↔ Conforms s.table.types a b
