-- When a value is of a static type: its own type is of the program and conforms to it.
use Rattle.std.specs.Prelude.{◌≡◌, ℕ, List, Option, Some, slice_get, option_map}
use Rattle.ec_code.specs.declared.code.Variable.{Variable}
use Rattle.ec_code.specs.declared.code.Variable.TheVariants.{Named, Temporary}
use Rattle.ec_code.specs.Typing.{Declared, integer, boolean, string, class_type}
use Rattle.ec_types.specs.declared.conform.static_type.StaticType.{StaticType}
use Rattle.ec_types.specs.declared.conform.static_type.StaticType.TheVariants as type
use Rattle.ec_types.specs.Fits.{Fits}
use Rattle.ec_world.specs.Agree.{AllTwo}
use Rattle.ec_world.specs.Objects.{object_at}
use Rattle.ec_world.specs.Sights.{class_of}
use Rattle.ec_world.specs.declared.class.ClassNo.{ClassNo}
use Rattle.ec_world.specs.declared.object.ObjectRec.{ObjectRec}
use Rattle.ec_world.specs.declared.value.Value.{Value}
use Rattle.ec_world.specs.declared.value.Value.TheVariants.{Int, Str, Ref, Nil, Bool as Truth}

-- the class of the object of a number, where it is there
abbrev pub class_in : List ObjectRec → ℕ → Option ClassNo
class_in objects o = class_of (object_at objects o)

-- a value's own type; a reference to an object that isn't there has none
abbrev pub own_type : Declared → List ObjectRec → Value → Option StaticType
own_type d objects (Int z) = Some integer
own_type d objects (Truth b) = Some boolean
own_type d objects (Str s) = Some string
own_type d objects Nil = Some type.Nil
own_type d objects (Ref o) = option_map (class_type d) (class_in objects o)

pub record HasType (d : Declared) (objects : List ObjectRec) (t : StaticType) (v : Value) : Type 0 where
  pub of : StaticType
  pub is : own_type d objects v ≡ Some of
  pub fits : Fits d.types of t

-- a value that is there, and of a type
pub record IsOfType (d : Declared) (objects : List ObjectRec) (t : StaticType) (read : Option Value) : Type 0 where
  pub value : Value
  pub is : read ≡ Some value
  pub fits : HasType d objects t value

-- what a variable holds: a named one, or a temporary
abbrev pub held : List Value → List Value → Variable → Option Value
held variables temporaries (Named n) = slice_get variables n
held variables temporaries (Temporary k) = slice_get temporaries k

-- these values are those of some variables
abbrev pub AreHeld : List Variable → List Value → List Value → List Value → Type 0
AreHeld names variables temporaries values = AllTwo (λ x v. held variables temporaries x ≡ Some v) names values

-- Objects are only added, and each keeps its class.
abbrev pub Later : List ObjectRec → List ObjectRec → Type 0
Later old new = (o : ℕ) (k : ClassNo) → class_in old o ≡ Some k → class_in new o ≡ Some k
