-- Types that are of a program: those that name what it declares.
use Rattle.std.specs.Prelude.{◌<◌, All, List, length, IfSome}
use Rattle.ec_types.specs.declared.conform.named_type.NamedType.{NamedType}
use Rattle.ec_types.specs.declared.conform.operations.NamedOperation.{NamedOperation}
use Rattle.ec_types.specs.declared.conform.static_type.Plain.{Plain as PlainType}
use Rattle.ec_types.specs.declared.conform.static_type.Plain.TheVariants.{Integer, Boolean, String, Any, Node, Named}
use Rattle.ec_types.specs.declared.conform.static_type.StaticType.{StaticType}
use Rattle.ec_types.specs.declared.conform.static_type.StaticType.TheVariants.{Plain, Vector, Nil, Unknown}

-- A named type is of the program where the program declares it.
abbrev pub IsPlainOfProgram : List NamedType → PlainType → Type 0
IsPlainOfProgram types Integer = Unit {0}
IsPlainOfProgram types Boolean = Unit {0}
IsPlainOfProgram types String = Unit {0}
IsPlainOfProgram types Any = Unit {0}
IsPlainOfProgram types Node = Unit {0}
IsPlainOfProgram types (Named n) = n < length types

-- A vector's type is of the program where that of its elements is. An unknown type is of no program.
abbrev pub IsOfProgram : List NamedType → StaticType → Type 0
IsOfProgram types (Plain of) = IsPlainOfProgram types of
IsOfProgram types (Vector inner of) = IsPlainOfProgram types of
IsOfProgram types Nil = Unit {0}
IsOfProgram types Unknown = ⊥

-- What an operation takes and gives is of the program.
pub record IsOperationOfProgram (types : List NamedType) (o : NamedOperation) : Type 0 where
  pub parameters : All (IsOfProgram types) o.parameters
  pub result : IfSome o.result (IsOfProgram types)

-- No declared operation takes or gives an unknown type.
abbrev pub NoneUnknown : List NamedType → Type 0
NoneUnknown types = All (λ (t : NamedType). All (IsOperationOfProgram types) t.operations) types
