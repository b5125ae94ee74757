-- Each type of a program conforms to itself, by the relation of each declared type with itself.
use Rattle.std.proofs.Common.{◌≡◌, ℕ, ◌<◌, ◌==◌, ltb, true, ◌&&◌, List, [], ◌∷◌, length, Option, Some, None, IfSome, refl, subst}
use Rattle.std.proofs.lemmas.Bool.{and_from, and_parts, or_left, or_right, eq-eqb, eqb-true, lt-ltb, ltb-true}
use Rattle.std.proofs.lemmas.List.Elements.{recursion_from_All}
use Rattle.std.specs.Cmp.Lexicographic.{bytes_decides}
use Rattle.std.specs.List.{AllByRecursion as Every}
use Rattle.std.specs.Str.{str_to_ascii_lowercase}
use Rattle.ec_types.specs.Names.{Text, is_same as is_same_name}
use Rattle.ec_types.specs.Conforms.{Relation, operations_at, plain_conforms, conforms_in, parameters_fit, results_fit, stands_for}
use Rattle.ec_types.specs.Conforms.{has_operation, has_operations, meets, IsClosed, Conforms}
use Rattle.ec_types.specs.Types.{is_same}
use Rattle.ec_types.specs.declared.conform.named_type.NamedType.{NamedType}
use Rattle.ec_types.specs.declared.conform.operations.NamedOperation.{NamedOperation}
use Rattle.ec_types.specs.declared.conform.static_type.Plain.{Plain as PlainType}
use Rattle.ec_types.specs.declared.conform.static_type.Plain.TheVariants.{Integer, Boolean, String, Any, Node, Named}
use Rattle.ec_types.specs.declared.conform.static_type.StaticType.{StaticType}
use Rattle.ec_types.specs.declared.conform.static_type.StaticType.TheVariants.{Plain, Vector, Nil, Unknown}
use Rattle.ec_types.specs.Known.{IsPlainOfProgram, IsOfProgram, IsOperationOfProgram, NoneUnknown}
use Rattle.ec_types.proofs.Operations.{operations_of_program}

same_name : (name : Text) → is_same_name name name ≡ true
same_name name =
    let letters : Text = str_to_ascii_lowercase name in
    (bytes_decides letters letters).1 refl

same_plain : (of : PlainType) → is_same of of ≡ true
same_plain Integer = refl
same_plain Boolean = refl
same_plain String = refl
same_plain Any = refl
same_plain Node = refl
same_plain (Named n) = eq-eqb n n refl

module _ (types : List NamedType) where
  abbrev itself : Relation
  itself a b = (a == b) && ltb a (length types)

  there : (n : ℕ) → n < length types → itself n n ≡ true
  there n h = and_from (n == n) (ltb n (length types)) (eq-eqb n n refl) (lt-ltb n (length types) h)

  plain_itself : (of : PlainType) → IsPlainOfProgram types of → plain_conforms types itself of of ≡ true
  plain_itself Integer h = refl
  plain_itself Boolean h = refl
  plain_itself String h = refl
  plain_itself Any h = refl
  plain_itself Node h = refl
  plain_itself (Named n) h = there n h

  type_itself : (t : StaticType) → IsOfProgram types t → conforms_in types itself t t ≡ true
  type_itself (Plain of) h = plain_itself of h
  type_itself (Vector inner of) h = and_from (inner == inner) (is_same of of) (eq-eqb inner inner refl) (same_plain of)
  type_itself Nil h = refl
  type_itself Unknown h = absurd h

  parameters_themselves : (ts : List StaticType) → Every (IsOfProgram types) ts → parameters_fit types itself ts ts ≡ true
  parameters_themselves [] h = refl
  parameters_themselves (t ∷ ts) h = and_from _ _ (type_itself t h.0) (parameters_themselves ts h.1)

  result_itself : (t : Option StaticType) → IfSome t (IsOfProgram types) → results_fit types itself t t ≡ true
  result_itself None h = refl
  result_itself (Some t) h = type_itself t h

  stands_for_itself : (o : NamedOperation) → IsOperationOfProgram types o → stands_for types itself o o ≡ true
  stands_for_itself o h =
      and_from (is_same_name o.name o.name) _ (same_name o.name)
      (and_from _ _ (parameters_themselves o.parameters (recursion_from_All (IsOfProgram types) o.parameters h.parameters))
      (result_itself o.result h.result))

  -- one operation more changes nothing
  one_more : (o : NamedOperation) (os ws : List NamedOperation) → has_operations types itself os ws ≡ true
      → has_operations types itself (o ∷ os) ws ≡ true
  one_more o os [] h = refl
  one_more o os (w ∷ ws) h =
      let e = and_parts (has_operation types itself os w) (has_operations types itself os ws) h in
      and_from (has_operation types itself (o ∷ os) w) _ (or_right (stands_for types itself w o) _ e.0) (one_more o os ws e.1)

  operations_themselves : (os : List NamedOperation) → Every (IsOperationOfProgram types) os
      → has_operations types itself os os ≡ true
  operations_themselves [] h = refl
  operations_themselves (o ∷ os) h =
      and_from (has_operation types itself (o ∷ os) o) _ (or_left (stands_for types itself o o) _ (stands_for_itself o h.0))
      (one_more o os os (operations_themselves os h.1))

  is_closed : NoneUnknown types → IsClosed types itself
  is_closed known = record { left = left; right = right; clauses = λ a b i j h. clauses a b h }
    where
      same : (a b : ℕ) → itself a b ≡ true → a ≡ b
      same a b h = eqb-true a b (and_parts (a == b) (ltb a (length types)) h).0

      left : (a b : ℕ) → itself a b ≡ true → a < length types
      left a b h = ltb-true a (length types) (and_parts (a == b) (ltb a (length types)) h).1

      right : (a b : ℕ) → itself a b ≡ true → b < length types
      right a b h = subst (λ n. n < length types) (same a b h) (left a b h)

      clauses : (a b : ℕ) → itself a b ≡ true → meets types itself a b ≡ true
      clauses a b h =
          subst (λ n. meets types itself a n ≡ true) (same a b h)
          (operations_themselves (operations_at types a) (operations_of_program types known a))

pub conforms_to_itself : (types : List NamedType) → NoneUnknown types → (t : StaticType) → IsOfProgram types t → Conforms types t t
conforms_to_itself types known t h = (itself types, is_closed types known, type_itself types t h)
