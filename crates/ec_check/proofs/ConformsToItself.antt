-- Each type of the table conforms to itself.
use Rattle.std.proofs.Common.{◌≡◌, ℕ, zero, suc, ◌+◌, ◌<◌, ◌==◌, true, ◌&&◌, List, [], ◌∷◌, ◌++◌, length, map, Option, Some, None}
use Rattle.std.proofs.Common.{option_map, slice_get, refl, sym, ◌∙◌, subst, if◌then◌else◌, arith}
use Rattle.std.proofs.lemmas.Bool.{eqb-true, eq-eqb, ltb-true, lt-ltb}
use Rattle.std.proofs.lemmas.List.{length-map}
use Rattle.std.specs.Prelude.{nat_lt}
use Rattle.ec_ast.specs.declared.Signature.{Signature}
use Rattle.ec_ast.specs.declared.TypeName.{TypeName, roll-TypeName, map-TypeName, fold-roll-TypeName, ind-TypeName}
use Rattle.ec_ast.specs.declared.TypeName.TheOpen.{TypeName-F}
use Rattle.ec_check.proofs.Every.{Every, Where, every_joined, every_weaker, either, first_holds, second_holds}
use Rattle.ec_check.proofs.FirstNames.{same_itself}
use Rattle.ec_check.proofs.FoundPlaces.{first_below}
use Rattle.ec_check.proofs.WellParts.{ConformsToItself}
use Rattle.ec_check.proofs.WellValues.{both_hold, first_of_two, second_of_two, same_plain}
use Rattle.ec_types.specs.Conforms.{Relation, operations_in, operations_at, conforms_in, parameters_fit, results_fit, stands_for}
use Rattle.ec_types.specs.Conforms.{has_operation, has_operations}
use Rattle.ec_types.specs.Conforms.{meets, IsClosed}
use Rattle.ec_types.specs.Table.{Table, IsTable}
use Rattle.ec_types.specs.Types.{named, vector_of, type_with_number, written, type_of, operation_of, operation_names}
use Rattle.ec_types.specs.Types.{operations_from, type_with}
use Rattle.ec_types.specs.Types.{names_of, types_of}
use Rattle.ec_types.specs.declared.conform.declared.DeclaredType.{DeclaredType}
use Rattle.ec_types.specs.declared.conform.declared.Declarations.{Declarations}
use Rattle.ec_types.specs.declared.conform.named_type.NamedType.{NamedType}
use Rattle.ec_types.specs.declared.conform.operations.NamedOperation.{NamedOperation}
use Rattle.ec_types.specs.declared.conform.static_type.Plain.{Plain as PlainType}
use Rattle.ec_types.specs.declared.conform.static_type.Plain.TheVariants.{Integer, Boolean, String, Any, Node, Named}
use Rattle.ec_types.specs.declared.conform.static_type.StaticType.{StaticType}
use Rattle.ec_types.specs.declared.conform.static_type.StaticType.TheVariants.{Plain, Vector, Nil, Unknown}
use Rattle.ec_types.specs.Names.{Text, is_same, first_named, has_name}

-- ---- types whose numbers are those of declared types

abbrev PlainThere : ℕ → PlainType → Type 0
PlainThere count (Named n) = n < count
PlainThere count Integer = Unit {0}
PlainThere count Boolean = Unit {0}
PlainThere count String = Unit {0}
PlainThere count Any = Unit {0}
PlainThere count Node = Unit {0}

abbrev TypeThere : ℕ → StaticType → Type 0
TypeThere count (Plain of) = PlainThere count of
TypeThere count (Vector inner of) = Unit {0}
TypeThere count Nil = Unit {0}
TypeThere count Unknown = Unit {0}

record OperationThere (count : ℕ) (o : NamedOperation) : Type 0 where
  parameters : Every (TypeThere count) o.parameters
  result : Where (TypeThere count) o.result

abbrev TypesThere : ℕ → List NamedType → Type 0
TypesThere count types = Every (λ (t : NamedType). Every (OperationThere count) t.operations) types

-- ---- the relation of each declared type with itself

abbrev itself : ℕ → Relation
itself count a b = (a == b) && nat_lt a count

module _ (types : List NamedType) (count : ℕ) where
  type_itself : (of : StaticType) → TypeThere count of → conforms_in types (itself count) of of ≡ true
  type_itself (Plain Integer) h = refl
  type_itself (Plain Boolean) h = refl
  type_itself (Plain String) h = refl
  type_itself (Plain Any) h = refl
  type_itself (Plain Node) h = refl
  type_itself (Plain (Named n)) h = both_hold (n == n) (nat_lt n count) (eq-eqb n n refl) (lt-ltb n count h)
  type_itself (Vector inner of) h = both_hold _ _ (eq-eqb inner inner refl) (same_plain of)
  type_itself Nil h = refl
  type_itself Unknown h = refl

  parameters_themselves : (ts : List StaticType) → Every (TypeThere count) ts → parameters_fit types (itself count) ts ts ≡ true
  parameters_themselves [] h = refl
  parameters_themselves (t ∷ ts) h = both_hold _ _ (type_itself t h.0) (parameters_themselves ts h.1)

  result_itself : (of : Option StaticType) → Where (TypeThere count) of → results_fit types (itself count) of of ≡ true
  result_itself None h = refl
  result_itself (Some of) h = type_itself of h

  stands_for_itself : (o : NamedOperation) → OperationThere count o → stands_for types (itself count) o o ≡ true
  stands_for_itself o h =
      both_hold (is_same o.name o.name) _ (same_itself o.name)
      (both_hold _ _ (parameters_themselves o.parameters h.parameters) (result_itself o.result h.result))

  each_stands : (os : List NamedOperation) → Every (OperationThere count) os →
      Every (λ w. has_operation types (itself count) os w ≡ true) os
  each_stands [] h = tt
  each_stands (o ∷ os) h = (
    first_of_two (stands_for types (itself count) o o) _ (stands_for_itself o h.0),
    every_weaker (λ w. has_operation types (itself count) os w ≡ true)
        (λ w. has_operation types (itself count) (o ∷ os) w ≡ true)
        (λ w k. second_of_two (stands_for types (itself count) w o) (has_operation types (itself count) os w) k) os
        (each_stands os h.1),
  )

  all_stand : (ws os : List NamedOperation) → Every (λ w. has_operation types (itself count) os w ≡ true) ws →
      has_operations types (itself count) os ws ≡ true
  all_stand [] os h = refl
  all_stand (w ∷ ws) os h = both_hold _ _ h.0 (all_stand ws os h.1)

  operations_themselves : (os : List NamedOperation) → Every (OperationThere count) os →
      has_operations types (itself count) os os ≡ true
  operations_themselves os h = all_stand os os (each_stands os h)

-- ---- the relation meets the clauses

operations_there : (count : ℕ) (types : List NamedType) (n : ℕ) → TypesThere count types →
    Every (OperationThere count) (operations_in (slice_get types n))
operations_there count [] n h = tt
operations_there count (t ∷ types) zero h = h.0
operations_there count (t ∷ types) (suc n) h = operations_there count types n h.1

is_closed : (types : List NamedType) → TypesThere (length types) types → IsClosed types (itself (length types))
is_closed types h = record {
  left = λ a b e. ltb-true a (length types) (second_holds (a == b) (nat_lt a (length types)) e);
  right = λ a b e.
      let same : a ≡ b = eqb-true a b (first_holds (a == b) (nat_lt a (length types)) e) in
      subst (λ n. n < length types) same (ltb-true a (length types) (second_holds (a == b) (nat_lt a (length types)) e));
  clauses = λ a b x y e.
      subst (λ n. meets types (itself (length types)) a n ≡ true) (eqb-true a b (first_holds (a == b) (nat_lt a (length types)) e))
      (operations_themselves types (length types) (operations_at types a) (operations_there (length types) types a h));
}

-- ---- types as they are written

abbrev WrittenThere : List Text → TypeName → Type 0
WrittenThere names of = TypeThere (length names) (type_of names of)

number_there : (count : ℕ) (n : Option ℕ) → Where (λ k. k < 0 + count) n → TypeThere count (type_with_number n)
number_there count None h = tt
number_there count (Some n) h = omega arith

vector_there : (count : ℕ) (of : StaticType) → TypeThere count (vector_of of)
vector_there count (Plain of) = tt
vector_there count (Vector inner of) = tt
vector_there count Nil = tt
vector_there count Unknown = tt

abbrev TypeHeld : List Text → Type 0
TypeHeld names = (of : TypeName) × WrittenThere names of

abbrev bare : (names : List Text) → TypeName-F (TypeHeld names) → TypeName-F TypeName
bare names = map-TypeName (TypeHeld names) TypeName (λ of. of.0)

layer_there : (names : List Text) (y : TypeName-F (TypeHeld names)) →
    TypeThere (length names) (written names (map-TypeName TypeName StaticType (type_of names) (bare names y)))
layer_there names (TypeName-F.Integer at) = tt
layer_there names (TypeName-F.Boolean at) = tt
layer_there names (TypeName-F.String at) = tt
layer_there names (TypeName-F.Any at) = tt
layer_there names (TypeName-F.Node at) = tt
layer_there names (TypeName-F.Named name) =
    number_there (length names) (first_named names name.text) (first_below 0 names name.text)
layer_there names (TypeName-F.Vector element at) = vector_there (length names) (type_of names element.0)

written_there : (names : List Text) (of : TypeName) → WrittenThere names of
written_there names =
    ind-TypeName (WrittenThere names)
    (λ x y is.
    subst (λ z. WrittenThere names (roll-TypeName z)) is
    (subst (TypeThere (length names)) (sym (fold-roll-TypeName StaticType (written names) (bare names y))) (layer_there names y)))

-- ---- the declared types

all_written : (names : List Text) (ts : List TypeName) → Every (TypeThere (length names)) (map (type_of names) ts)
all_written names [] = tt
all_written names (t ∷ ts) = (written_there names t, all_written names ts)

result_written : (names : List Text) (t : Option TypeName) → Where (TypeThere (length names)) (option_map (type_of names) t)
result_written names None = tt
result_written names (Some t) = written_there names t

operation_there : (names : List Text) (s : Signature) → OperationThere (length names) (operation_of names s)
operation_there names s = record { parameters = all_written names s.parameters; result = result_written names s.result }

operations_from_there : (ss : List Signature) (names : List Text) (before : List NamedOperation) →
    Every (OperationThere (length names)) before → Every (OperationThere (length names)) (operations_from names before ss)
operations_from_there [] names before h = h
operations_from_there (s ∷ ss) names before h =
    operations_from_there ss names
    (if has_name (operation_names before) s.name.text then before else (before ++ operation_of names s ∷ []))
    (either (Every (OperationThere (length names))) (has_name (operation_names before) s.name.text) before
    (before ++ operation_of names s ∷ []) h
    (every_joined (OperationThere (length names)) before (operation_of names s ∷ []) h (operation_there names s, tt)))

declared_there : (names : List Text) (declared : List DeclaredType) → TypesThere (length names) (map (type_with names) declared)
declared_there names [] = tt
declared_there names (d ∷ declared) = (operations_from_there d.operations names [] tt, declared_there names declared)

types_there : (declared : List DeclaredType) → TypesThere (length (types_of declared)) (types_of declared)
types_there declared =
    subst (λ n. TypesThere n (types_of declared))
    (length-map declared (λ d. d.name.text) ∙ sym (length-map declared (type_with (names_of declared))))
    (declared_there (names_of declared) declared)

pub conforms_to_itself : (declared : Declarations) (table : Table) (n : ℕ) → IsTable declared table →
    n < length table.types → ConformsToItself table n
conforms_to_itself declared table n is l =
    (is.conforms (named n) (named n)).1 (
      itself (length table.types),
      is_closed table.types (subst (λ types. TypesThere (length types) types) (sym is.types) (types_there declared.types)),
      both_hold (n == n) (nat_lt n (length table.types)) (eq-eqb n n refl) (lt-ltb n (length table.types) l),
    )
