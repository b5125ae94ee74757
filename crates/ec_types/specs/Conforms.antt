-- Conformity of types (Emerald; Jul, Levy, Hutchinson and Black 1988, and the Emerald language report): the largest
-- relation that meets the clauses.
use Rattle.std.specs.Prelude.{◌≡◌, ℕ, ◌<◌, ◌==◌, ◌&&◌, ◌||◌, Bool, true, false, List, [], ◌∷◌, length, Option, Some, None, slice_get}
use Rattle.ec_types.specs.Names.{is_same as is_same_name}
use Rattle.ec_types.specs.Types.{is_same, is_reference}
use Rattle.ec_types.specs.declared.conform.named_type.NamedType.{NamedType}
use Rattle.ec_types.specs.declared.conform.operations.NamedOperation.{NamedOperation}
use Rattle.ec_types.specs.declared.conform.static_type.Plain.{Plain as PlainType}
use Rattle.ec_types.specs.declared.conform.static_type.Plain.TheVariants.{Integer, Boolean, String, Any, Node, Named}
use Rattle.ec_types.specs.declared.conform.static_type.StaticType.{StaticType}
use Rattle.ec_types.specs.declared.conform.static_type.StaticType.TheVariants.{Plain, Vector, Nil, Unknown}

-- A set of pairs of named types, by their numbers.
abbrev pub Relation : Type 0
Relation = ℕ → ℕ → Bool

-- ---- the operations of a named type

abbrev pub operations_in : Option NamedType → List NamedOperation
operations_in None = []
operations_in (Some t) = t.operations

abbrev pub operations_at : List NamedType → ℕ → List NamedOperation
operations_at types n = operations_in (slice_get types n)

abbrev pub is_none : List NamedOperation → Bool
is_none [] = true
is_none (o ∷ os) = false

-- the types that Any, Node and each vector type conform to: Any, and the named types without operations
abbrev pub asks_nothing : List NamedType → PlainType → Bool
asks_nothing types Any = true
asks_nothing types (Named n) = is_none (operations_at types n)
asks_nothing types _ = false

-- ---- any two types, where the relation says which named types conform to which

-- a named type conforms to named types and to Any
abbrev pub named_conforms : Relation → ℕ → PlainType → Bool
named_conforms r a (Named b) = r a b
named_conforms r a Any = true
named_conforms r a _ = false

-- Value types conform to themselves alone. Each reference type conforms to Any, and Node to itself.
abbrev pub plain_conforms : List NamedType → Relation → PlainType → PlainType → Bool
plain_conforms types r Integer t = is_same Integer t
plain_conforms types r Boolean t = is_same Boolean t
plain_conforms types r String t = is_same String t
plain_conforms types r Any t = asks_nothing types t
plain_conforms types r Node t = is_same Node t || asks_nothing types t
plain_conforms types r (Named a) t = named_conforms r a t

-- The literal nil conforms to each reference type, and an unknown type to each type.
abbrev pub conforms_to_plain : List NamedType → Relation → StaticType → PlainType → Bool
conforms_to_plain types r (Plain s) t = plain_conforms types r s t
conforms_to_plain types r (Vector inner of) t = asks_nothing types t
conforms_to_plain types r Nil t = is_reference t
conforms_to_plain types r Unknown t = true

-- Two vector types conform where they are one.
abbrev pub conforms_to_vector : StaticType → ℕ → PlainType → Bool
conforms_to_vector (Plain s) inner of = false
conforms_to_vector (Vector m s) inner of = (m == inner) && is_same s of
conforms_to_vector Nil inner of = true
conforms_to_vector Unknown inner of = true

-- No type that can be written conforms to that of nil, but an unknown one.
abbrev pub conforms_to_nil : StaticType → Bool
conforms_to_nil (Plain s) = false
conforms_to_nil (Vector m s) = false
conforms_to_nil Nil = true
conforms_to_nil Unknown = true

-- Each type and nil conform to an unknown type.
abbrev pub conforms_in : List NamedType → Relation → StaticType → StaticType → Bool
conforms_in types r s (Plain t) = conforms_to_plain types r s t
conforms_in types r s (Vector inner of) = conforms_to_vector s inner of
conforms_in types r s Nil = conforms_to_nil s
conforms_in types r s Unknown = true

-- ---- two named types

-- as many parameters, each wanted one conforming to the one that is there
abbrev pub parameters_fit : List NamedType → Relation → List StaticType → List StaticType → Bool
parameters_fit types r [] [] = true
parameters_fit types r [] (p ∷ ps) = false
parameters_fit types r (w ∷ ws) [] = false
parameters_fit types r (w ∷ ws) (p ∷ ps) = conforms_in types r w p && parameters_fit types r ws ps

-- as many results, the one that is there conforming to the wanted one
abbrev pub results_fit : List NamedType → Relation → Option StaticType → Option StaticType → Bool
results_fit types r None None = true
results_fit types r None (Some w) = false
results_fit types r (Some p) None = false
results_fit types r (Some p) (Some w) = conforms_in types r p w

-- An operation has the name of the wanted one, takes what it takes, and gives what it gives.
abbrev pub stands_for : List NamedType → Relation → NamedOperation → NamedOperation → Bool
stands_for types r wanted o =
    is_same_name o.name wanted.name && (parameters_fit types r wanted.parameters o.parameters && results_fit types r o.result wanted.result)

abbrev pub has_operation : List NamedType → Relation → List NamedOperation → NamedOperation → Bool
has_operation types r [] wanted = false
has_operation types r (o ∷ os) wanted = stands_for types r wanted o || has_operation types r os wanted

abbrev pub has_operations : List NamedType → Relation → List NamedOperation → List NamedOperation → Bool
has_operations types r os [] = true
has_operations types r os (wanted ∷ ws) = has_operation types r os wanted && has_operations types r os ws

-- the one type has for each operation of the other one that stands for it
abbrev pub meets : List NamedType → Relation → ℕ → ℕ → Bool
meets types r s t = has_operations types r (operations_at types s) (operations_at types t)

-- ---- the largest relation

-- So many types a program may have.
abbrev pub most_types : ℕ
most_types = 1000

-- Each pair is of types that are there, and meets the clauses with pairs of the relation. The types behind the thousandth
-- are compared with nothing: each of them conforms to each named type, and each of these to it. A program that has such
-- types is refused.
pub record IsClosed (types : List NamedType) (r : Relation) : Type 0 where
  pub left : (a b : ℕ) → r a b ≡ true → a < length types
  pub right : (a b : ℕ) → r a b ≡ true → b < length types
  pub clauses : (a b : ℕ) → a < most_types → b < most_types → r a b ≡ true → meets types r a b ≡ true

-- Some relation of pairs that meet the clauses lets the one type conform to the other.
abbrev pub Conforms : List NamedType → StaticType → StaticType → Type 0
Conforms types s t = (r : Relation) × IsClosed types r × (conforms_in types r s t ≡ true)
