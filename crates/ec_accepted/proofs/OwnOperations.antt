-- The operations of a class: by their names, by their numbers, and as its type has them.
use Rattle.std.proofs.Common.{◌≡◌, ℕ, suc, ◌+◌, ◌==◌, ◌&&◌, Bool, true, false, if◌then◌else◌, is_some, List, [], ◌∷◌, ◌++◌}
use Rattle.std.proofs.Common.{map, length}
use Rattle.std.proofs.Common.{Option, Some, None, refl, sym, ap, ◌∙◌, subst, inl, inr, arith, eq-eqb, eqb-true, ne_eqb}
use Rattle.std.specs.Prelude.{slice_get}
use Rattle.ec_check.proofs.FirstNames.{same_itself}
use Rattle.ec_check.specs.Operations.{AreDistinct, as_seen, exported_of, is_of_class, operations_of_class}
use Rattle.ec_check.specs.WellTyped.{is_named}
use Rattle.ec_code.specs.Fine.{IsIn}
use Rattle.ec_types.proofs.NamesLemmas.{same_number}
use Rattle.ec_types.specs.declared.conform.operations.NamedOperation.{NamedOperation}
use Rattle.ec_core.specs.declared.Kind.{Kind}
use Rattle.ec_core.specs.declared.Kind.TheVariants as kind
use Rattle.ec_core.specs.declared.Operation.{Operation}
use Rattle.ec_emission.proofs.Forms.{both_true, not_true}
use Rattle.ec_accepted.proofs.Calling.{same_joined}
use Rattle.ec_accepted.proofs.Standing.{NamedOf}
use Rattle.ec_meaning.specs.Programs as meaning
use Rattle.ec_meaning.specs.Programs.{Source, name_number, number_or, operation_names, operations_from}
use Rattle.ec_types.specs.Names.{Text, is_same, first_from, first_named, has_name}
use Rattle.ec_world.specs.Objects.{operation_named}
use Rattle.ec_world.specs.declared.class.OperationRec.{OperationRec}

-- ---- names

had_from : (n : ℕ) (names : List Text) (own name : Text) → IsIn own names → is_same own name ≡ true →
    is_some (first_from n names name) ≡ true
had_from n [] own name i e = absurd i
had_from n (first ∷ names) own name (inl f) e =
    let same : is_same first name ≡ true = subst (λ z. is_same z name ≡ true) f e in
    ap (λ b. is_some (if b then Some n else first_from (n + 1) names name)) same
had_from n (first ∷ names) own name (inr i) e = by_test (is_same first name) (had_from (n + 1) names own name i e)
  where
    by_test : (b : Bool) → is_some (first_from (n + 1) names name) ≡ true →
        is_some (if b then Some n else first_from (n + 1) names name) ≡ true
    by_test true h = refl
    by_test false h = h

-- one of these names is the same
had : (names : List Text) (own name : Text) → IsIn own names → is_same own name ≡ true → has_name names name ≡ true
had names own name i e = had_from 0 names own name i e

-- the number of one that is there
record Numbered (names : List Text) (name : Text) : Type 0 where
  pub number : ℕ
  pub is : first_named names name ≡ Some number

numbered : (names : List Text) (name : Text) → has_name names name ≡ true → Numbered names name
numbered names name h = by_number (first_named names name) refl h
  where
    by_number : (o : Option ℕ) → first_named names name ≡ o → is_some o ≡ true → Numbered names name
    by_number None e f = not_true f
    by_number (Some k) e f = record { number = k; is = e }

module _ (s : Source) where
  abbrev names : List Text
  names = operation_names s.core.operations

  number_is : (name : Text) (k : ℕ) → first_named names name ≡ Some k → name_number s name ≡ k
  number_is name k e = ap (number_or (length names)) e

  -- two names of operations are one exactly where their numbers are
  number_same : (a b : Text) → has_name names a ≡ true → has_name names b ≡ true → is_same a b ≡ true →
      name_number s a ≡ name_number s b
  number_same a b h k e =
      let i : Numbered names a = numbered names a h in
      let j : Numbered names b = numbered names b k in
      let t : i.number == j.number ≡ true = sym (same_number names a b i.number j.number i.is j.is) ∙ e in
      number_is a i.number i.is ∙ eqb-true i.number j.number t ∙ sym (number_is b j.number j.is)

  name_same : (a b : Text) → has_name names a ≡ true → has_name names b ≡ true → name_number s a ≡ name_number s b →
      is_same a b ≡ true
  name_same a b h k e =
      let i : Numbered names a = numbered names a h in
      let j : Numbered names b = numbered names b k in
      let t : i.number ≡ j.number = sym (number_is a i.number i.is) ∙ e ∙ number_is b j.number j.is in
      same_number names a b i.number j.number i.is j.is ∙ eq-eqb i.number j.number t

-- ---- the operations of a class

same_kind : (k : Kind) → meaning.is_named k ≡ is_named k
same_kind kind.Named = refl
same_kind kind.Initial = refl
same_kind kind.Process = refl

abbrev names_of : List Operation → List Text
names_of os = map (λ (o : Operation). o.name) os

name_among : (q : Operation) (os : List Operation) → IsIn q os → IsIn q.name (names_of os)
name_among q [] i = absurd i
name_among q (o ∷ os) (inl e) = inl (ap (λ (z : Operation). z.name) e)
name_among q (o ∷ os) (inr i) = inr (name_among q os i)

behind_if : {A : Type 0} (b : Bool) (x y : A) (ys : List A) → IsIn x ys → IsIn x ((if b then y ∷ [] else []) ++ ys)
behind_if true x y ys i = inr i
behind_if false x y ys i = i

is_of : (class : ℕ) (q : Operation) → q.class ≡ class → is_named q.kind ≡ true → is_of_class class q ≡ true
is_of class q c k =
    ap (λ b. b && is_named q.kind) (eq-eqb q.class class c) ∙ k

of_class_has : (class : ℕ) (q : Operation) (os : List Operation) → IsIn q os → q.class ≡ class → is_named q.kind ≡ true →
    IsIn q (operations_of_class class os)
of_class_has class q [] i c k = absurd i
of_class_has class q (o ∷ os) (inl e) c k =
    let t : is_of_class class o ≡ true = subst (λ z. is_of_class class z ≡ true) e (is_of class q c k) in
    subst (λ b. IsIn q ((if b then o ∷ [] else []) ++ operations_of_class class os)) (sym t) (inl e)
of_class_has class q (o ∷ os) (inr i) c k =
    behind_if (is_of_class class o) q o (operations_of_class class os) (of_class_has class q os i c k)

-- the named operations have their names among the program's
names_have : (o : Operation) (os : List Operation) → IsIn o os → meaning.is_named o.kind ≡ true →
    IsIn o.name (operation_names os)
names_have o [] i k = absurd i
names_have o (p ∷ os) (inl e) k =
    let t : meaning.is_named p.kind ≡ true = subst (λ (z : Operation). meaning.is_named z.kind ≡ true) e k in
    subst (λ b. IsIn o.name ((if b then p.name ∷ [] else []) ++ operation_names os)) (sym t)
    (inl (ap (λ (z : Operation). z.name) e))
names_have o (p ∷ os) (inr i) k =
    behind_if (meaning.is_named p.kind) o.name p.name (operation_names os) (names_have o os i k)

program_has : (s : Source) (o : Operation) → IsIn o s.core.operations → is_named o.kind ≡ true →
    has_name (operation_names s.core.operations) o.name ≡ true
program_has s o i k =
    had (operation_names s.core.operations) o.name o.name (names_have o s.core.operations i (same_kind o.kind ∙ k))
    (same_itself o.name)

-- ---- where an operation of a class stands

-- among these operations, of which the first has a number, and among the class's
pub record OwnPlace (s : Source) (class n : ℕ) (name : Text) (q : Operation) (os : List Operation) : Type 0 where
  pub place : ℕ
  pub at : slice_get os place ≡ Some q
  pub found : operation_named (operations_from s n os class) (name_number s name) ≡ Some (n + place)

module _ (s : Source) (class : ℕ) (name : Text) (q : Operation) (is : NamedOf s class name q) where
  q_had : has_name (names s) q.name ≡ true
  q_had = program_has s q is.there is.named

  name_had : has_name (names s) name ≡ true
  name_had = had (names s) q.name name (names_have q s.core.operations is.there (same_kind q.kind ∙ is.named)) is.same

  -- another operation of the class has another number
  other_number : (o : Operation) (rest : List Operation) → IsIn o s.core.operations → is_named o.kind ≡ true → IsIn q rest →
      has_name (names_of (operations_of_class class rest)) o.name ≡ false →
      name_number s o.name == name_number s name ≡ false
  other_number o rest there k i none =
      ne_eqb (name_number s o.name) (name_number s name)
      (λ e.
      let same : is_same o.name name ≡ true = name_same s o.name name (program_has s o there k) name_had e in
      let twice : is_same q.name o.name ≡ true = same_joined q.name o.name name is.same same in
      let had_twice : has_name (names_of (operations_of_class class rest)) o.name ≡ true =
      had (names_of (operations_of_class class rest)) q.name o.name
      (name_among q (operations_of_class class rest) (of_class_has class q rest i is.class is.named)) twice in
      not_true (sym none ∙ had_twice))

  abbrev listed : ℕ → Operation → Bool → List OperationRec
  listed n o b = if b then record { name = name_number s o.name; operation = n } ∷ [] else []

  abbrev Numbers : ℕ → List OperationRec → ℕ → Type 0
  Numbers n rs place = operation_named rs (name_number s name) ≡ Some (n + place)

  -- the operation is the first of them
  here_first : (n : ℕ) (o : Operation) (rest : List OperationRec) (b : Bool) → is_of_class class o ≡ b → q ≡ o →
      Numbers n (listed n o b ++ rest) 0
  here_first n o rest true t e =
      let same : name_number s o.name ≡ name_number s name =
      subst (λ (z : Operation). name_number s z.name ≡ name_number s name) e
      (number_same s q.name name q_had name_had is.same) in
      let at : n ≡ n + 0 = omega arith in
      ap (λ b. if b then Some n else operation_named rest (name_number s name))
      (eq-eqb (name_number s o.name) (name_number s name) same)
      ∙ ap Some at
  here_first n o rest false t e =
      not_true
      (sym t ∙ subst (λ z. is_of_class class z ≡ true) e (is_of class q is.class is.named))

  here_later : (n : ℕ) (o : Operation) (os : List Operation) (rest : List OperationRec) (place : ℕ) (b : Bool) →
      is_of_class class o ≡ b → IsIn o s.core.operations → IsIn q os →
      AreDistinct (names_of ((if b then o ∷ [] else []) ++ operations_of_class class os)) → Numbers (suc n) rest place →
      Numbers n (listed n o b ++ rest) (suc place)
  here_later n o os rest place true t there i distinct h =
      let k = both_true (o.class == class) (is_named o.kind) t in
      let other : name_number s o.name == name_number s name ≡ false = other_number o os there k.1 i distinct.0 in
      let at : suc n + place ≡ n + suc place = omega arith in
      ap (λ b. if b then Some n else operation_named rest (name_number s name)) other ∙ h ∙ ap Some at
  here_later n o os rest place false t there i distinct h =
      let at : suc n + place ≡ n + suc place = omega arith in h ∙ ap Some at

  distinct_rest : (o : Operation) (os : List Operation) (b : Bool) →
      AreDistinct (names_of ((if b then o ∷ [] else []) ++ os)) → AreDistinct (names_of os)
  distinct_rest o os true h = h.1
  distinct_rest o os false h = h

  -- the meaning lists an operation where it is of the class
  lists_as : (o : Operation) → (o.class == class && meaning.is_named o.kind) ≡ is_of_class class o
  lists_as o = ap (λ b. o.class == class && b) (same_kind o.kind)

  pub own_place :
      (n : ℕ) (os : List Operation) → ((o : Operation) → IsIn o os → IsIn o s.core.operations) → IsIn q os →
      AreDistinct (names_of (operations_of_class class os)) → OwnPlace s class n name q os
  own_place n [] all i distinct = absurd i
  own_place n (o ∷ os) all (inl e) distinct = record {
    place = 0;
    at = ap Some (sym e);
    found =
        subst (λ b. Numbers n (listed n o b ++ operations_from s (suc n) os class) 0) (sym (lists_as o))
        (here_first n o (operations_from s (suc n) os class) (is_of_class class o) refl e);
  }
  own_place n (o ∷ os) all (inr i) distinct =
      let r : OwnPlace s class (suc n) name q os =
      own_place (suc n) os (λ p j. all p (inr j)) i
      (distinct_rest o (operations_of_class class os) (is_of_class class o) distinct) in
      record {
        place = suc r.place;
        at = r.at;
        found =
            subst (λ b. Numbers n (listed n o b ++ operations_from s (suc n) os class) (suc r.place)) (sym (lists_as o))
            (here_later n o os (operations_from s (suc n) os class) r.place (is_of_class class o) refl (all o (inl refl)) i
            distinct
            r.found);
      }

-- ---- as its type has them

-- an operation of the type is one of the class's that others may call
record SeenAs (v : NamedOperation) (qs : List Operation) : Type 0 where
  pub operation : Operation
  pub there : IsIn operation qs
  pub seen : v ≡ as_seen operation

exported_is : (v : NamedOperation) (qs : List Operation) → IsIn v (exported_of qs) → SeenAs v qs
exported_is v [] i = absurd i
exported_is v (o ∷ os) i = by_test o.is_exported i (λ j. exported_is v os j)
  where
    by_test : (b : Bool) → IsIn v ((if b then as_seen o ∷ [] else []) ++ exported_of os) → (IsIn v (exported_of os) →
        SeenAs v os) → SeenAs v (o ∷ os)
    by_test true (inl e) later = record { operation = o; there = inl refl; seen = e }
    by_test true (inr j) later =
        let r = later j in record { operation = r.operation; there = inr r.there; seen = r.seen }
    by_test false j later = let r = later j in record { operation = r.operation; there = inr r.there; seen = r.seen }

-- an operation of a class is named, and of the class
record ClassHas (class : ℕ) (q : Operation) (os : List Operation) : Type 0 where
  pub there : IsIn q os
  pub of : is_of_class class q ≡ true

of_class : (class : ℕ) (q : Operation) (os : List Operation) → IsIn q (operations_of_class class os) → ClassHas class q os
of_class class q [] i = absurd i
of_class class q (o ∷ os) i = by_test (is_of_class class o) refl i (λ j. of_class class q os j)
  where
    by_test : (b : Bool) → is_of_class class o ≡ b → IsIn q ((if b then o ∷ [] else []) ++ operations_of_class class os) →
        (IsIn q (operations_of_class class os) → ClassHas class q os) → ClassHas class q (o ∷ os)
    by_test true t (inl e) later =
        record { there = inl e; of = subst (λ z. is_of_class class z ≡ true) (sym e) t }
    by_test true t (inr j) later = let r = later j in record { there = inr r.there; of = r.of }
    by_test false t j later = let r = later j in record { there = inr r.there; of = r.of }

-- what the type of a class's objects has is named in the core
pub seen_in : (s : Source) (class : ℕ) (name : Text) (v : NamedOperation) →
    IsIn v (exported_of (operations_of_class class s.core.operations)) → is_same v.name name ≡ true →
    (q : Operation) × NamedOf s class name q × (v ≡ as_seen q)
seen_in s class name v i e =
    let a : SeenAs v (operations_of_class class s.core.operations) = exported_is v
    (operations_of_class class s.core.operations) i in
    let b : ClassHas class a.operation s.core.operations = of_class class a.operation s.core.operations a.there in
    let k = both_true (a.operation.class == class) (is_named a.operation.kind) b.of in (
      a.operation,
      record {
        there = b.there;
        class = eqb-true a.operation.class class k.0;
        named = k.1;
        same = subst (λ (z : NamedOperation). is_same z.name name ≡ true) a.seen e;
      },
      a.seen,
    )
