-- Two steps of conformity in one: what a relation that meets the clauses allows in two steps, another one allows in one. It has
-- each pair of two steps, and each pair whose right type has no operations.
use Rattle.std.proofs.Common.{◌≡◌, ℕ, zero, suc, ◌<◌, ◌≤◌, ◌==◌, ltb, Bool, true, false, ◌&&◌, ◌||◌, ◌⊎◌, inl, inr, List, [], ◌∷◌}
use Rattle.std.proofs.Common.{length, Option, Some, None, IfSome, refl, sym, ◌∙◌, ap, subst, arith}
use Rattle.std.proofs.lemmas.Bool.{and_from, and_parts, cases_eq, eqb-true, false≢true, lt-ltb, ltb-true, or_cases, or_left, or_right}
use Rattle.std.proofs.lemmas.List.Elements.{recursion_from_All}
use Rattle.std.specs.Cmp.Lexicographic.{bytes_decides}
use Rattle.std.specs.List.{AllByRecursion as Every}
use Rattle.std.specs.Str.{str_to_ascii_lowercase}
use Rattle.ec_types.specs.Names.{Text, is_same as is_same_name}
use Rattle.ec_types.specs.Conforms.{Relation, operations_at, is_none, asks_nothing, named_conforms, plain_conforms, conforms_to_plain}
use Rattle.ec_types.specs.Conforms.{conforms_to_vector, conforms_to_nil, conforms_in, parameters_fit, results_fit, stands_for}
use Rattle.ec_types.specs.Conforms.{has_operation, has_operations, meets, most_types, IsClosed}
use Rattle.ec_types.specs.Types.{is_same, is_reference}
use Rattle.ec_types.specs.declared.conform.named_type.NamedType.{NamedType}
use Rattle.ec_types.specs.declared.conform.operations.NamedOperation.{NamedOperation}
use Rattle.ec_types.specs.declared.conform.static_type.Plain.{Plain as PlainType}
use Rattle.ec_types.specs.declared.conform.static_type.Plain.TheVariants.{Integer, Boolean, String, Any, Node, Named}
use Rattle.ec_types.specs.declared.conform.static_type.StaticType.{StaticType}
use Rattle.ec_types.specs.declared.conform.static_type.StaticType.TheVariants.{Plain, Vector, Nil, Unknown}
use Rattle.ec_types.specs.Known.{IsPlainOfProgram, IsOfProgram, IsOperationOfProgram, NoneUnknown}
use Rattle.ec_types.proofs.Operations.{operations_of_program}

never : {A : Type 0} → false ≡ true → A
never h = absurd (false≢true h)

-- ---- names and types that are one

letters : (a b : Text) → is_same_name a b ≡ true → str_to_ascii_lowercase a ≡ str_to_ascii_lowercase b
letters a b same = (bytes_decides _ _).0 same

name_in_two : (a b c : Text) → is_same_name b a ≡ true → is_same_name c b ≡ true → is_same_name c a ≡ true
name_in_two a b c h k = (bytes_decides _ _).1 (letters c b k ∙ letters b a h)

one_plain : (p q : PlainType) → is_same p q ≡ true → p ≡ q
one_plain Integer Integer h = refl
one_plain Boolean Boolean h = refl
one_plain String String h = refl
one_plain Any Any h = refl
one_plain Node Node h = refl
one_plain (Named a) (Named b) h = ap Named (eqb-true a b h)
one_plain _ _ h = never h

-- ---- the relation of two steps

module _ (types : List NamedType) (r : Relation) where
  -- one of the first n types lies between the two
  abbrev between : ℕ → ℕ → ℕ → Bool
  between a c zero = false
  between a c (suc n) = (r a n && r n c) || between a c n

  -- Both are there, and one lies between them, or the second one has no operations.
  abbrev pub two_steps : Relation
  two_steps a c =
      ltb a (length types) && (ltb c (length types) && (is_none (operations_at types c) || between a c (length types)))

  between_these : (a b c n : ℕ) → b < n → r a b ≡ true → r b c ≡ true → between a c n ≡ true
  between_these a b c zero l h k = absurd (omega arith)
  between_these a b c (suc n) l h k = by (λ m. between_these a b c n m h k) (cases_eq b n)
    where
      by : (b < n → between a c n ≡ true) → (b ≡ n) ⊎ (b ≡ n → ⊥) → between a c (suc n) ≡ true
      by behind (inl same) =
          or_left (r a n && r n c) (between a c n)
          (and_from (r a n) (r n c) (subst (λ i. r a i ≡ true) same h) (subst (λ i. r i c ≡ true) same k))
      by behind (inr apart) = or_right (r a n && r n c) (between a c n) (behind (omega (arith, apart)))

  abbrev Between : ℕ → ℕ → Type 0
  Between a c = (b : ℕ) × (r a b ≡ true) × (r b c ≡ true)

  one_between : (a c n : ℕ) → between a c n ≡ true → Between a c
  one_between a c zero h = never h
  one_between a c (suc n) h = by (λ e. one_between a c n e) (or_cases (r a n && r n c) (between a c n) h)
    where
      by : (between a c n ≡ true → Between a c) → ((r a n && r n c) ≡ true) ⊎ (between a c n ≡ true) → Between a c
      by behind (inl e) =
          let both = and_parts (r a n) (r n c) e in
          (n, both.0, both.1)
      by behind (inr e) = behind e

module _ (types : List NamedType) (r : Relation) (few : length types ≤ most_types) (closed : IsClosed types r) where
  abbrev two : Relation
  two = two_steps types r

  -- all types are compared, since there are few
  meet : (a b : ℕ) → r a b ≡ true → meets types r a b ≡ true
  meet a b h =
      let left : a < length types = closed.left a b h in
      let right : b < length types = closed.right a b h in
      closed.clauses a b (omega arith) (omega arith) h

  two_from : (a c : ℕ) → a < length types → c < length types
      → (is_none (operations_at types c) || between types r a c (length types)) ≡ true → two a c ≡ true
  two_from a c l m h =
      and_from (ltb a (length types)) _ (lt-ltb a (length types) l) (and_from (ltb c (length types)) _ (lt-ltb c (length types) m) h)

  two_of_none : (a c : ℕ) → a < length types → c < length types → is_none (operations_at types c) ≡ true → two a c ≡ true
  two_of_none a c l m h = two_from a c l m (or_left (is_none (operations_at types c)) _ h)

  two_by : (a b c : ℕ) → r a b ≡ true → r b c ≡ true → two a c ≡ true
  two_by a b c h k =
      two_from a c (closed.left a b h) (closed.right b c k)
      (or_right (is_none (operations_at types c)) _ (between_these types r a b c (length types) (closed.right a b h) h k))

  -- ---- types that ask nothing, and types of references

  none_wanted : (os : List NamedOperation) → has_operations types r [] os ≡ true → is_none os ≡ true
  none_wanted [] h = refl
  none_wanted (o ∷ os) h = never h

  empty : (os : List NamedOperation) → is_none os ≡ true → os ≡ []
  empty [] h = refl
  empty (o ∷ os) h = never h

  none_behind : (a b : ℕ) → is_none (operations_at types a) ≡ true → r a b ≡ true → is_none (operations_at types b) ≡ true
  none_behind a b none h =
      none_wanted (operations_at types b)
      (subst (λ os. has_operations types r os (operations_at types b) ≡ true) (empty (operations_at types a) none) (meet a b h))

  nothing_behind : (p q : PlainType) → asks_nothing types p ≡ true → plain_conforms types r p q ≡ true → asks_nothing types q ≡ true
  nothing_behind Any q h k = k
  nothing_behind (Named a) Any h k = refl
  nothing_behind (Named a) (Named b) h k = none_behind a b h k
  nothing_behind (Named a) _ h k = never k
  nothing_behind _ q h k = never h

  reference_of_nothing : (q : PlainType) → asks_nothing types q ≡ true → is_reference q ≡ true
  reference_of_nothing Any h = refl
  reference_of_nothing (Named a) h = refl
  reference_of_nothing _ h = never h

  reference_behind : (p q : PlainType) → is_reference p ≡ true → plain_conforms types r p q ≡ true → is_reference q ≡ true
  reference_behind Any q h k = reference_of_nothing q k
  reference_behind Node Node h k = refl
  reference_behind Node Any h k = refl
  reference_behind Node (Named a) h k = refl
  reference_behind Node _ h k = never k
  reference_behind (Named a) Any h k = refl
  reference_behind (Named a) (Named b) h k = refl
  reference_behind (Named a) _ h k = never k
  reference_behind _ q h k = never h

  -- ---- any three types

  named_in_two : (a : ℕ) (p q : PlainType) → a < length types → IsPlainOfProgram types q → named_conforms r a p ≡ true
      → plain_conforms types r p q ≡ true → named_conforms two a q ≡ true
  named_in_two a (Named b) (Named c) l m h k = two_by a b c h k
  named_in_two a (Named b) Any l m h k = refl
  named_in_two a (Named b) _ l m h k = never k
  named_in_two a Any (Named c) l m h k = two_of_none a c l m k
  named_in_two a Any Any l m h k = refl
  named_in_two a Any _ l m h k = never k
  named_in_two a _ q l m h k = never h

  node_in_two : (p q : PlainType) → plain_conforms types r Node p ≡ true → plain_conforms types r p q ≡ true
      → plain_conforms types r Node q ≡ true
  node_in_two Node q h k = k
  node_in_two Any q h k = or_right (is_same Node q) (asks_nothing types q) k
  node_in_two (Named a) q h k = or_right (is_same Node q) (asks_nothing types q) (nothing_behind (Named a) q h k)
  node_in_two _ q h k = never h

  plain_in_two : (o p q : PlainType) → IsPlainOfProgram types o → IsPlainOfProgram types q → plain_conforms types r o p ≡ true
      → plain_conforms types r p q ≡ true → plain_conforms types two o q ≡ true
  plain_in_two Integer p q a c h k = subst (λ x. plain_conforms types r x q ≡ true) (sym (one_plain Integer p h)) k
  plain_in_two Boolean p q a c h k = subst (λ x. plain_conforms types r x q ≡ true) (sym (one_plain Boolean p h)) k
  plain_in_two String p q a c h k = subst (λ x. plain_conforms types r x q ≡ true) (sym (one_plain String p h)) k
  plain_in_two Any p q a c h k = nothing_behind p q h k
  plain_in_two Node p q a c h k = node_in_two p q h k
  plain_in_two (Named n) p q a c h k = named_in_two n p q a c h k

  to_plain : (s : StaticType) (p q : PlainType) → IsOfProgram types s → IsPlainOfProgram types q
      → conforms_to_plain types r s p ≡ true → plain_conforms types r p q ≡ true → conforms_to_plain types two s q ≡ true
  to_plain (Plain o) p q a c h k = plain_in_two o p q a c h k
  to_plain (Vector inner of) p q a c h k = nothing_behind p q h k
  to_plain Nil p q a c h k = reference_behind p q h k
  to_plain Unknown p q a c h k = absurd a

  by_vector : (s : StaticType) (inner : ℕ) (of q : PlainType) → IsOfProgram types s → conforms_to_vector s inner of ≡ true
      → asks_nothing types q ≡ true → conforms_to_plain types two s q ≡ true
  by_vector (Plain p) inner of q a h k = never h
  by_vector (Vector m p) inner of q a h k = k
  by_vector Nil inner of q a h k = reference_of_nothing q k
  by_vector Unknown inner of q a h k = absurd a

  by_nil : (s : StaticType) (q : PlainType) → IsOfProgram types s → conforms_to_nil s ≡ true → is_reference q ≡ true
      → conforms_to_plain types two s q ≡ true
  by_nil (Plain p) q a h k = never h
  by_nil (Vector m p) q a h k = never h
  by_nil Nil q a h k = k
  by_nil Unknown q a h k = absurd a

  nil_to_vector : (s : StaticType) (inner : ℕ) (of : PlainType) → conforms_to_nil s ≡ true → conforms_to_vector s inner of ≡ true
  nil_to_vector (Plain p) inner of h = never h
  nil_to_vector (Vector m p) inner of h = never h
  nil_to_vector Nil inner of h = refl
  nil_to_vector Unknown inner of h = refl

  same_vector : (s : StaticType) (m n : ℕ) (p q : PlainType) → conforms_to_vector s m p ≡ true → ((m == n) && is_same p q) ≡ true
      → conforms_to_vector s n q ≡ true
  same_vector s m n p q h k =
      let e = and_parts (m == n) (is_same p q) k in
      subst (λ i. conforms_to_vector s i q ≡ true) (eqb-true m n e.0)
      (subst (λ x. conforms_to_vector s m x ≡ true) (one_plain p q e.1) h)

  pub conforms_in_two : (s t u : StaticType) → IsOfProgram types s → IsOfProgram types t → IsOfProgram types u
      → conforms_in types r s t ≡ true → conforms_in types r t u ≡ true → conforms_in types two s u ≡ true
  conforms_in_two s (Plain p) (Plain q) a b c h k = to_plain s p q a c h k
  conforms_in_two s (Plain p) (Vector n q) a b c h k = never k
  conforms_in_two s (Plain p) Nil a b c h k = never k
  conforms_in_two s (Vector m p) (Plain q) a b c h k = by_vector s m p q a h k
  conforms_in_two s (Vector m p) (Vector n q) a b c h k = same_vector s m n p q h k
  conforms_in_two s (Vector m p) Nil a b c h k = never k
  conforms_in_two s Nil (Plain q) a b c h k = by_nil s q a h k
  conforms_in_two s Nil (Vector n q) a b c h k = nil_to_vector s n q h
  conforms_in_two s Nil Nil a b c h k = h
  conforms_in_two s Unknown u a b c h k = absurd b
  conforms_in_two s t Unknown a b c h k = absurd c

  -- ---- operations

  parameters_in_two : (ws os ps : List StaticType) → Every (IsOfProgram types) ws → Every (IsOfProgram types) os
      → Every (IsOfProgram types) ps → parameters_fit types r ws os ≡ true → parameters_fit types r os ps ≡ true
      → parameters_fit types two ws ps ≡ true
  parameters_in_two [] [] [] a b c h k = refl
  parameters_in_two [] [] (p ∷ ps) a b c h k = never k
  parameters_in_two [] (o ∷ os) ps a b c h k = never h
  parameters_in_two (w ∷ ws) [] ps a b c h k = never h
  parameters_in_two (w ∷ ws) (o ∷ os) [] a b c h k = never k
  parameters_in_two (w ∷ ws) (o ∷ os) (p ∷ ps) a b c h k =
      let first = and_parts (conforms_in types r w o) (parameters_fit types r ws os) h in
      let second = and_parts (conforms_in types r o p) (parameters_fit types r os ps) k in
      and_from (conforms_in types two w p) (parameters_fit types two ws ps)
      (conforms_in_two w o p a.0 b.0 c.0 first.0 second.0)
      (parameters_in_two ws os ps a.1 b.1 c.1 first.1 second.1)

  results_in_two : (p o w : Option StaticType) → IfSome p (IsOfProgram types) → IfSome o (IsOfProgram types)
      → IfSome w (IsOfProgram types) → results_fit types r p o ≡ true → results_fit types r o w ≡ true
      → results_fit types two p w ≡ true
  results_in_two None None None a b c h k = refl
  results_in_two None None (Some w) a b c h k = never k
  results_in_two None (Some o) w a b c h k = never h
  results_in_two (Some p) None w a b c h k = never h
  results_in_two (Some p) (Some o) None a b c h k = never k
  results_in_two (Some p) (Some o) (Some w) a b c h k = conforms_in_two p o w a b c h k

  each_parameter : (o : NamedOperation) → IsOperationOfProgram types o → Every (IsOfProgram types) o.parameters
  each_parameter o h = recursion_from_All (IsOfProgram types) o.parameters h.parameters

  stands_in_two : (w o p : NamedOperation) → IsOperationOfProgram types w → IsOperationOfProgram types o
      → IsOperationOfProgram types p → stands_for types r w o ≡ true → stands_for types r o p ≡ true
      → stands_for types two w p ≡ true
  stands_in_two w o p a b c h k =
      let named = and_parts (is_same_name o.name w.name) _ h in
      let named_too = and_parts (is_same_name p.name o.name) _ k in
      let first = and_parts (parameters_fit types r w.parameters o.parameters) _ named.1 in
      let second = and_parts (parameters_fit types r o.parameters p.parameters) _ named_too.1 in
      and_from (is_same_name p.name w.name) _ (name_in_two w.name o.name p.name named.0 named_too.0)
      (and_from (parameters_fit types two w.parameters p.parameters) _
      (parameters_in_two w.parameters o.parameters p.parameters (each_parameter w a) (each_parameter o b) (each_parameter p c)
      first.0 second.0)
      (results_in_two p.result o.result w.result c.result b.result a.result second.1 first.1))

  -- Where o stands for w, what stands for o does for w.
  has_by : (w o : NamedOperation) (ps : List NamedOperation) → IsOperationOfProgram types w → IsOperationOfProgram types o
      → Every (IsOperationOfProgram types) ps → stands_for types r w o ≡ true → has_operation types r ps o ≡ true
      → has_operation types two ps w ≡ true
  has_by w o [] a b c h k = never k
  has_by w o (p ∷ ps) a b c h k =
      by (λ e. has_by w o ps a b c.1 h e) (or_cases (stands_for types r o p) (has_operation types r ps o) k)
    where
      by : (has_operation types r ps o ≡ true → has_operation types two ps w ≡ true)
          → (stands_for types r o p ≡ true) ⊎ (has_operation types r ps o ≡ true) → has_operation types two (p ∷ ps) w ≡ true
      by behind (inl e) = or_left (stands_for types two w p) _ (stands_in_two w o p a b c.0 h e)
      by behind (inr e) = or_right (stands_for types two w p) _ (behind e)

  has_in_two : (w : NamedOperation) (os ps : List NamedOperation) → IsOperationOfProgram types w
      → Every (IsOperationOfProgram types) os → Every (IsOperationOfProgram types) ps → has_operation types r os w ≡ true
      → has_operations types r ps os ≡ true → has_operation types two ps w ≡ true
  has_in_two w [] ps a b c h k = never h
  has_in_two w (o ∷ os) ps a b c h k =
      let all = and_parts (has_operation types r ps o) (has_operations types r ps os) k in
      by all.0 (λ e. has_in_two w os ps a b.1 c e all.1) (or_cases (stands_for types r w o) (has_operation types r os w) h)
    where
      by : has_operation types r ps o ≡ true → (has_operation types r os w ≡ true → has_operation types two ps w ≡ true)
          → (stands_for types r w o ≡ true) ⊎ (has_operation types r os w ≡ true) → has_operation types two ps w ≡ true
      by has behind (inl e) = has_by w o ps a b.0 c e has
      by has behind (inr e) = behind e

  all_in_two : (ws os ps : List NamedOperation) → Every (IsOperationOfProgram types) ws → Every (IsOperationOfProgram types) os
      → Every (IsOperationOfProgram types) ps → has_operations types r os ws ≡ true → has_operations types r ps os ≡ true
      → has_operations types two ps ws ≡ true
  all_in_two [] os ps a b c h k = refl
  all_in_two (w ∷ ws) os ps a b c h k =
      let all = and_parts (has_operation types r os w) (has_operations types r os ws) h in
      and_from (has_operation types two ps w) (has_operations types two ps ws) (has_in_two w os ps a.0 b c all.0 k)
      (all_in_two ws os ps a.1 b c all.1 k)

  -- ---- the relation meets the clauses

  has_none : (ps ws : List NamedOperation) → is_none ws ≡ true → has_operations types two ps ws ≡ true
  has_none ps [] h = refl
  has_none ps (w ∷ ws) h = never h

  pub two_steps_closed : NoneUnknown types → IsClosed types two
  two_steps_closed known = record {
    left = λ a c h. ltb-true a (length types) (parts a c h).0;
    right = λ a c h. ltb-true c (length types) (parts a c h).1;
    clauses = λ a c i j h. clauses a c (or_cases (is_none (operations_at types c)) _ (parts a c h).2);
  }
    where
      parts : (a c : ℕ) → two a c ≡ true → (ltb a (length types) ≡ true) × (ltb c (length types) ≡ true)
          × ((is_none (operations_at types c) || between types r a c (length types)) ≡ true)
      parts a c h =
          let outer = and_parts (ltb a (length types)) _ h in
          let inner = and_parts (ltb c (length types)) _ outer.1 in
          (outer.0, inner.0, inner.1)

      each : (n : ℕ) → Every (IsOperationOfProgram types) (operations_at types n)
      each n = operations_of_program types known n

      clauses : (a c : ℕ) → (is_none (operations_at types c) ≡ true) ⊎ (between types r a c (length types) ≡ true)
          → meets types two a c ≡ true
      clauses a c (inl h) = has_none (operations_at types a) (operations_at types c) h
      clauses a c (inr h) =
          let b = one_between types r a c (length types) h in
          all_in_two (operations_at types c) (operations_at types b.0) (operations_at types a) (each c) (each b.0) (each a)
          (meet b.0 c b.2) (meet a b.0 b.1)
