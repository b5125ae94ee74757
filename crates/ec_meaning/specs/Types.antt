-- The static types of the core, as a world knows them.
use Rattle.std.specs.Prelude.{ℕ}
use Rattle.ec_types.specs.Table.{Table, conforms}
use Rattle.ec_types.specs.declared.conform.static_type.Plain.{Plain as PlainStatic}
use Rattle.ec_types.specs.declared.conform.static_type.Plain.TheVariants as static
use Rattle.ec_types.specs.declared.conform.static_type.StaticType.{StaticType}
use Rattle.ec_types.specs.declared.conform.static_type.StaticType.TheVariants.{Plain, Vector, Nil, Unknown}
use Rattle.ec_world.specs.declared.class.PlainType.{PlainType}
use Rattle.ec_world.specs.declared.class.PlainType.TheVariants as plain
use Rattle.ec_world.specs.declared.class.VectorType.{VectorType}
use Rattle.ec_world.specs.declared.class.ViewedAs.{ViewedAs}
use Rattle.ec_world.specs.declared.class.ViewedAs.TheVariants as seen
use Rattle.ec_world.specs.declared.value.ValueType.{ValueType}
use Rattle.ec_world.specs.declared.value.ValueType.TheVariants as kind

-- what a variable, a field or a constant of a type holds
abbrev pub plain_kind : PlainStatic → ValueType
plain_kind static.Integer = kind.Integer
plain_kind static.Boolean = kind.Boolean
plain_kind static.String = kind.Bytes
plain_kind static.Any = kind.Reference
plain_kind static.Node = kind.Reference
plain_kind (static.Named n) = kind.Reference

abbrev pub kind_of : StaticType → ValueType
kind_of (Plain of) = plain_kind of
kind_of (Vector inner of) = kind.Reference
kind_of Nil = kind.Reference
kind_of Unknown = kind.Reference

abbrev pub plain_type : PlainStatic → PlainType
plain_type static.Integer = plain.Integer
plain_type static.Boolean = plain.Boolean
plain_type static.String = plain.Bytes
plain_type static.Any = plain.Any
plain_type static.Node = plain.Node
plain_type (static.Named n) = plain.Named n

abbrev pub vector_with : ℕ → PlainStatic → VectorType
vector_with inner of = record { inner = inner; of = plain_type of }

-- A vector's type; no other stands where one is wanted.
abbrev pub vector_type : StaticType → VectorType
vector_type (Vector inner of) = vector_with inner of
vector_type (Plain of) = vector_with 0 of
vector_type Nil = vector_with 0 static.Any
vector_type Unknown = vector_with 0 static.Any

-- The types as which an object is viewed; the value types, nil and the unknown type aren't among them. To a named type
-- without operations, and to no other one, Any conforms.
abbrev pub viewed_plain : Table → PlainStatic → ViewedAs
viewed_plain table (static.Named n) = seen.Named n (conforms table (Plain static.Any) (Plain (static.Named n)))
viewed_plain table static.Node = seen.Node
viewed_plain table static.Any = seen.Any
viewed_plain table static.Integer = seen.Any
viewed_plain table static.Boolean = seen.Any
viewed_plain table static.String = seen.Any

abbrev pub viewed_as : Table → StaticType → ViewedAs
viewed_as table (Plain of) = viewed_plain table of
viewed_as table (Vector inner of) = seen.Vector (vector_with inner of)
viewed_as table Nil = seen.Any
viewed_as table Unknown = seen.Any
