-- Types, as the static rules see them, and the types that a list of declarations names.
use Rattle.std.specs.Prelude.{ℕ, zero, suc, ◌==◌, ◌+◌, ◌&&◌, Bool, true, false, if◌then◌else◌, List, [], ◌∷◌, ◌++◌, map, Option}
use Rattle.std.specs.Prelude.{Some, None, option_map}
use Rattle.ec_ast.specs.declared.Signature.{Signature}
use Rattle.ec_ast.specs.declared.Span.{Span}
use Rattle.ec_ast.specs.declared.TypeName.{TypeName}
use Rattle.ec_ast.specs.declared.TypeName.TheOpen.{TypeName-F}
use Rattle.ec_ast.specs.declared.TypeName.TheFolds.{fold-TypeName}
use Rattle.ec_types.specs.Names.{Text, is_same as is_same_name, first_named, has_name}
use Rattle.ec_types.specs.declared.conform.declared.DeclaredType.{DeclaredType}
use Rattle.ec_types.specs.declared.conform.named_type.NamedType.{NamedType}
use Rattle.ec_types.specs.declared.conform.operations.NamedOperation.{NamedOperation}
use Rattle.ec_types.specs.declared.conform.static_type.Plain.{Plain as PlainType}
use Rattle.ec_types.specs.declared.conform.static_type.Plain.TheVariants.{Integer, Boolean, String, Any, Node, Named}
use Rattle.ec_types.specs.declared.conform.static_type.StaticType.{StaticType}
use Rattle.ec_types.specs.declared.conform.static_type.StaticType.TheVariants.{Plain, Vector, Nil, Unknown}

-- ---- types

-- two plain types are one
abbrev pub is_same : PlainType → PlainType → Bool
is_same Integer Integer = true
is_same Boolean Boolean = true
is_same String String = true
is_same Any Any = true
is_same Node Node = true
is_same (Named a) (Named b) = a == b
is_same _ _ = false

-- Two types are one. An unknown type is none.
abbrev pub is_same_type : StaticType → StaticType → Bool
is_same_type (Plain a) (Plain b) = is_same a b
is_same_type (Vector m a) (Vector n b) = (m == n) && is_same a b
is_same_type Nil Nil = true
is_same_type _ _ = false

-- the types of objects: those other than the value types
abbrev pub is_reference : PlainType → Bool
is_reference Integer = false
is_reference Boolean = false
is_reference String = false
is_reference Any = true
is_reference Node = true
is_reference (Named n) = true

-- the types of references, that of nil among them
abbrev pub is_reference_type : StaticType → Bool
is_reference_type (Plain of) = is_reference of
is_reference_type (Vector inner of) = true
is_reference_type Nil = true
is_reference_type Unknown = false

-- Integer, Boolean and String
abbrev pub is_value : StaticType → Bool
is_value (Plain Integer) = true
is_value (Plain Boolean) = true
is_value (Plain String) = true
is_value _ = false

-- The type of vectors with elements of a type. Where this is unknown, the vector's type is.
abbrev pub vector_of : StaticType → StaticType
vector_of (Plain of) = Vector 0 of
vector_of (Vector inner of) = Vector (inner + 1) of
vector_of Nil = Unknown
vector_of Unknown = Unknown

abbrev pub element_from : ℕ → PlainType → StaticType
element_from zero of = Plain of
element_from (suc inner) of = Vector inner of

-- the type of a vector's elements; None of what is no vector
abbrev pub element_of : StaticType → Option StaticType
element_of (Vector inner of) = Some (element_from inner of)
element_of _ = None

-- What is of an unknown type has no type.
abbrev pub known : StaticType → Option StaticType
known (Plain of) = Some (Plain of)
known (Vector inner of) = Some (Vector inner of)
known Nil = Some Nil
known Unknown = None

-- ---- the types that are declared, by their numbers

-- the type with a number
abbrev pub named : ℕ → StaticType
named n = Plain (Named n)

abbrev pub type_with_number : Option ℕ → StaticType
type_with_number None = Unknown
type_with_number (Some n) = named n

-- The type that a name names: that of the first declaration with this name.
abbrev pub type_named : List Text → Text → StaticType
type_named names name = type_with_number (first_named names name)

-- the type that is written so
abbrev pub written : List Text → TypeName-F StaticType → StaticType
written names (TypeName-F.Integer at) = Plain Integer
written names (TypeName-F.Boolean at) = Plain Boolean
written names (TypeName-F.String at) = Plain String
written names (TypeName-F.Any at) = Plain Any
written names (TypeName-F.Node at) = Plain Node
written names (TypeName-F.Named name) = type_named names name.text
written names (TypeName-F.Vector element at) = vector_of element

abbrev pub type_of : List Text → TypeName → StaticType
type_of names = fold-TypeName StaticType (written names)

-- The number of the first type whose name stands at a place, by its first byte; how many there are, where none does. The
-- places are those of the types from n on.
abbrev pub number_from : ℕ → List ℕ → ℕ → ℕ
number_from n [] at = n
number_from n (place ∷ places) at = if place == at then n else number_from (n + 1) places at

abbrev pub number_at : List ℕ → ℕ → ℕ
number_at places at = number_from 0 places at

-- ---- operations

-- an operation with the types that it takes and gives
abbrev pub operation_of : List Text → Signature → NamedOperation
operation_of names s = record {
  name = s.name.text;
  parameters = map (type_of names) s.parameters;
  result = option_map (type_of names) s.result;
}

abbrev pub operation_names : List NamedOperation → List Text
operation_names operations = map (λ o. o.name) operations

-- A name means the first operation that is called so.
abbrev pub operation_named : List NamedOperation → Text → Option NamedOperation
operation_named [] name = None
operation_named (o ∷ os) name = if is_same_name o.name name then Some o else operation_named os name

-- The operations of a type behind those that are taken, without those of a name that is taken.
abbrev pub operations_from : List Text → List NamedOperation → List Signature → List NamedOperation
operations_from names taken [] = taken
operations_from names taken (s ∷ ss) =
    operations_from names
    (if has_name (operation_names taken) s.name.text then taken else (taken ++ operation_of names s ∷ [])) ss

abbrev pub type_with : List Text → DeclaredType → NamedType
type_with names d = record { operations = operations_from names [] d.operations }

-- ---- what is declared

abbrev pub names_of : List DeclaredType → List Text
names_of declared = map (λ d. d.name.text) declared

-- the first bytes of their names
abbrev pub places_of : List DeclaredType → List ℕ
places_of declared = map (λ d. d.name.at.from) declared

-- the first bytes of the places of operations
abbrev pub firsts_of : List Span → List ℕ
firsts_of places = map (λ at. at.from) places

abbrev pub types_of : List DeclaredType → List NamedType
types_of declared = map (type_with (names_of declared)) declared
