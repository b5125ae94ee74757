-- What a program of three-address code is typed by: the types that it declares, its names of operations, and its classes.
use Rattle.std.specs.Prelude.{ℕ, List, [], Option, Some, None, slice_get}
use Rattle.ec_types.specs.declared.conform.named_type.NamedType.{NamedType}
use Rattle.ec_types.specs.declared.conform.static_type.Plain.{Plain as PlainStatic}
use Rattle.ec_types.specs.declared.conform.static_type.Plain.TheVariants as static
use Rattle.ec_types.specs.declared.conform.static_type.StaticType.{StaticType}
use Rattle.ec_types.specs.declared.conform.static_type.StaticType.TheVariants as type
use Rattle.ec_types.specs.Types.{named, element_from}
use Rattle.ec_types.specs.Names.{Text}
use Rattle.ec_world.specs.declared.class.ClassNo.{ClassNo}
use Rattle.ec_world.specs.declared.class.ClassNo.TheVariants.{Node, Program, Made, Vector}
use Rattle.ec_world.specs.declared.class.PlainType.{PlainType}
use Rattle.ec_world.specs.declared.class.PlainType.TheVariants as plain
use Rattle.ec_world.specs.declared.class.VectorType.{VectorType}
use Rattle.ec_world.specs.declared.class.ViewedAs.{ViewedAs}
use Rattle.ec_world.specs.declared.class.ViewedAs.TheVariants as seen
use Rattle.ec_world.specs.declared.value.ValueType.{ValueType}
use Rattle.ec_world.specs.declared.value.ValueType.TheVariants as kind

-- A class: the number of its objects' type, the types of what a creation gives (captured names, or parameters), and those of
-- its fields, of which the given ones are the first.
pub record DeclaredClass : Type 0 where
  pub number : ℕ
  pub given : List StaticType
  pub fields : List StaticType

-- The named types by their numbers, the names of operations by theirs, and the classes in their order.
pub record Declared : Type 0 where
  pub types : List NamedType
  pub names : List Text
  pub classes : List DeclaredClass

-- ---- types

abbrev pub integer : StaticType
integer = type.Plain static.Integer

abbrev pub boolean : StaticType
boolean = type.Plain static.Boolean

abbrev pub string : StaticType
string = type.Plain static.String

abbrev pub any : StaticType
any = type.Plain static.Any

abbrev pub node : StaticType
node = type.Plain static.Node

abbrev pub plain_static : PlainType → PlainStatic
plain_static plain.Integer = static.Integer
plain_static plain.Boolean = static.Boolean
plain_static plain.Bytes = static.String
plain_static plain.Any = static.Any
plain_static plain.Node = static.Node
plain_static (plain.Named n) = static.Named n

abbrev pub vector_static : VectorType → StaticType
vector_static v = type.Vector v.inner (plain_static v.of)

abbrev pub element_static : VectorType → StaticType
element_static v = element_from v.inner (plain_static v.of)

abbrev pub viewed : ViewedAs → StaticType
viewed seen.Any = any
viewed seen.Node = node
viewed (seen.Vector of) = vector_static of
viewed (seen.Named n is_bare) = named n

-- The type of the objects of a class. The program's own object is of no type but Any.
abbrev pub type_if : Option DeclaredClass → StaticType
type_if None = any
type_if (Some k) = named k.number

abbrev pub class_type : Declared → ClassNo → StaticType
class_type d Node = node
class_type d Program = any
class_type d (Made k) = type_if (slice_get d.classes k)
class_type d (Vector of) = vector_static of

-- the types of the fields of a class
abbrev pub fields_if : Option DeclaredClass → List StaticType
fields_if None = []
fields_if (Some k) = k.fields

abbrev pub field_types : Declared → ClassNo → List StaticType
field_types d (Made k) = fields_if (slice_get d.classes k)
field_types d Node = []
field_types d Program = []
field_types d (Vector of) = []

-- what a variable, a field or a constant of a type holds
abbrev pub plain_kind : PlainStatic → ValueType
plain_kind static.Integer = kind.Integer
plain_kind static.Boolean = kind.Boolean
plain_kind static.String = kind.Bytes
plain_kind static.Any = kind.Reference
plain_kind static.Node = kind.Reference
plain_kind (static.Named n) = kind.Reference

abbrev pub kind_of : StaticType → ValueType
kind_of (type.Plain of) = plain_kind of
kind_of (type.Vector inner of) = kind.Reference
kind_of type.Nil = kind.Reference
kind_of type.Unknown = kind.Reference
