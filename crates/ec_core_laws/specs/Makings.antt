-- How new objects are made: a constructor gives its class the names that it captures, and `create` gives a class arguments.
use Rattle.std.specs.Prelude.{◌≡◌, ℕ, ◌⊎◌, false, List, [], All}
use Rattle.ec_check.specs.Numbers.{Number, Kept, Constructed, Created, Begun, Condition, in_expression, in_block}
use Rattle.ec_core.specs.declared.Class.{Class}
use Rattle.ec_core.specs.declared.Constant.{Constant}
use Rattle.ec_core.specs.declared.Core.{Core}
use Rattle.ec_core.specs.declared.Kind.{Kind}
use Rattle.ec_core.specs.declared.Kind.TheVariants as kind
use Rattle.ec_core.specs.declared.Operation.{Operation}

-- ---- classes

-- A class captures no names, or has no parameters.
abbrev pub HoldsOneOfTwo : Class → Type 0
HoldsOneOfTwo c = (c.captured ≡ []) ⊎ (c.parameters ≡ 0)

-- ---- where objects are made

-- each class with the number has no parameters
abbrev pub TakesNoArguments : List Class → ℕ → Type 0
TakesNoArguments classes n = All (λ (c : Class). c.number ≡ n → c.parameters ≡ 0) classes

-- each class with the number captures nothing
abbrev pub CapturesNothing : List Class → ℕ → Type 0
CapturesNothing classes n = All (λ (c : Class). c.number ≡ n → c.captured ≡ []) classes

-- The class of an object that a constructor makes has no parameters, and that of one that `create` makes captures nothing.
abbrev pub MakesRight : List Class → Number → Type 0
MakesRight classes (Kept place) = Unit {0}
MakesRight classes (Constructed n values) = TakesNoArguments classes n
MakesRight classes (Created n arguments) = CapturesNothing classes n
MakesRight classes (Begun n) = Unit {0}
MakesRight classes (Condition n) = Unit {0}

-- ---- what operations begin with

-- It has no parameters, and no name of a result.
pub record IsBare (o : Operation) : Type 0 where
  pub parameters : o.parameters ≡ 0
  pub result : o.has_result ≡ false

abbrev pub IsBareAs : Kind → Operation → Type 0
IsBareAs kind.Named o = Unit {0}
IsBareAs kind.Initial o = IsBare o
IsBareAs kind.Process o = IsBare o

-- What makes an object and what is a process section is so.
abbrev pub BeginsBare : Operation → Type 0
BeginsBare o = IsBareAs o.kind o

-- ---- of a whole core

pub record IsMadeRight (core : Core) : Type 0 where
  pub classes : All HoldsOneOfTwo core.classes
  pub operations : All (λ (o : Operation). All (MakesRight core.classes) (in_block o.block)) core.operations
  pub constants : All (λ (c : Constant). All (MakesRight core.classes) (in_expression c.value)) core.constants
  pub begins : All BeginsBare core.operations
