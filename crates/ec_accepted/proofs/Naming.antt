-- The operations that a class has for those of its type, by the numbers of their names.
use Rattle.std.proofs.Common.{◌≡◌, ℕ, zero, suc, ◌+◌, ◌==◌, ◌&&◌, ◌||◌, ◌⊎◌, inl, inr, ⊎_elim, Bool, true, false}
use Rattle.std.proofs.Common.{if◌then◌else◌, List, [], ◌∷◌, ◌++◌, map}
use Rattle.std.proofs.Common.{length, Option, Some, None, refl, sym, ap, ap₂, ◌∙◌, subst, arith, is_some}
use Rattle.std.proofs.lemmas.Bool.{eq-eqb, eqb-true}
use Rattle.std.specs.Prelude.{slice_get}
use Rattle.ec_check.proofs.Every.{not_both}
use Rattle.ec_check.proofs.FirstNames.{same_itself}
use Rattle.ec_check.specs.Operations.{AreDistinct, as_seen, exported_of, operations_of_class}
use Rattle.ec_check.specs.WellTyped.{is_named as is_named_kind}
use Rattle.ec_code.specs.Fine.{IsIn}
use Rattle.ec_types.proofs.NamesLemmas.{same_number, has_name_more, has_name_same}
use Rattle.ec_types.specs.declared.conform.operations.NamedOperation.{NamedOperation}
use Rattle.ec_core.specs.declared.Kind.{Kind}
use Rattle.ec_core.specs.declared.Kind.TheVariants as kind
use Rattle.ec_core.specs.declared.Operation.{Operation}
use Rattle.ec_accepted.proofs.Finding.{no_some, same_some}
use Rattle.ec_meaning.specs.Programs.{Source, is_named, name_number, number_or, operation_names, operations_from}
use Rattle.ec_types.specs.Names.{Text, is_same, first_named, has_name}
use Rattle.ec_world.specs.Objects.{operation_named}
use Rattle.ec_world.specs.declared.class.OperationRec.{OperationRec}

-- ---- numbers of names

number_of : (found : Option ℕ) → is_some found ≡ true → (i : ℕ) × (found ≡ Some i)
number_of None e = not_both e
number_of (Some i) e = (i, refl)

-- Two names that are there are one where their numbers are.
numbers_tell : (s : Source) (a b : Text) → has_name (operation_names s.core.operations) a ≡ true →
    has_name (operation_names s.core.operations) b ≡ true → is_same a b ≡ (name_number s a == name_number s b)
numbers_tell s a b h k =
    let names : List Text = operation_names s.core.operations in
    let i = number_of (first_named names a) h in
    let j = number_of (first_named names b) k in
    same_number names a b i.0 j.0 i.1 j.1
    ∙ ap₂ (λ x y. x == y) (sym (ap (number_or (length names)) i.1)) (sym (ap (number_or (length names)) j.1))

first_has : (own : Text) (names : List Text) → has_name (own ∷ names) own ≡ true
first_has own names = has_name_more own names own ∙ by (is_same own own) (same_itself own)
  where
    by : (b : Bool) → b ≡ true → (b || has_name names own) ≡ true
    by true e = refl
    by false e = not_both e

more_has : (own : Text) (names : List Text) (name : Text) → has_name names name ≡ true → has_name (own ∷ names) name ≡ true
more_has own names name e = has_name_more own names name ∙ by (is_same own name)
  where
    by : (b : Bool) → (b || has_name names name) ≡ true
    by true = refl
    by false = e

-- ---- the names of all operations

named_first : (o : Operation) (names : List Text) (k : Kind) → k ≡ kind.Named →
    has_name ((if is_named k then o.name ∷ [] else []) ++ names) o.name ≡ true
named_first o names kind.Named e = first_has o.name names
named_first o names kind.Initial e = no_name e
  where
    no_name : {A : Type 0} → kind.Initial ≡ kind.Named → A
    no_name f = cc
named_first o names kind.Process e = no_name e
  where
    no_name : {A : Type 0} → kind.Process ≡ kind.Named → A
    no_name f = cc

named_more : (own name : Text) (names : List Text) (b : Bool) → has_name names name ≡ true →
    has_name ((if b then own ∷ [] else []) ++ names) name ≡ true
named_more own name names true e = more_has own names name e
named_more own name names false e = e

name_there : (os : List Operation) (i : ℕ) (o : Operation) → slice_get os i ≡ Some o → o.kind ≡ kind.Named →
    has_name (operation_names os) o.name ≡ true
name_there [] i o e k = no_some o e
name_there (x ∷ os) zero o e k =
    let same : x ≡ o = same_some x o e in
    subst (λ (y : Operation). has_name (operation_names (x ∷ os)) y.name ≡ true) same
    (named_first x (operation_names os) x.kind (ap (λ (y : Operation). y.kind) same ∙ k))
name_there (x ∷ os) (suc i) o e k =
    named_more x.name o.name (operation_names os) (is_named x.kind) (name_there os i o e k)

-- ---- those of a class

abbrev texts : List Operation → List Text
texts os = map (λ (o : Operation). o.name) os

exported_or_later : (b : Bool) (w x : NamedOperation) (xs : List NamedOperation) →
    IsIn w ((if b then x ∷ [] else []) ++ xs) →
    (w ≡ x) ⊎ IsIn w xs
exported_or_later true w x xs i = i
exported_or_later false w x xs i = inr i

-- An exported operation has the name of one of them.
exported_named : (os : List Operation) (w : NamedOperation) → IsIn w (exported_of os) → has_name (texts os) w.name ≡ true
exported_named [] w i = absurd i
exported_named (o ∷ os) w i =
    ⊎_elim
    (λ e.
    subst (λ name. has_name (texts (o ∷ os)) name ≡ true) (sym (ap (λ (v : NamedOperation). v.name) e))
    (first_has o.name (texts os)))
    (λ j. more_has o.name (texts os) w.name (exported_named os w j))
    (exported_or_later o.is_exported w (as_seen o) (exported_of os) i)

-- One of these operations is seen as a wanted one, and among the records of a class it is found by the number of its name.
pub record Meets (s : Source) (records : List OperationRec) (os : List Operation) (n class : ℕ) (w : NamedOperation) :
    Type 0 where
  pub place : ℕ
  pub operation : Operation
  pub is : slice_get os place ≡ Some operation
  pub of_class : operation.class ≡ class
  pub of_kind : operation.kind ≡ kind.Named
  pub seen : w ≡ as_seen operation
  pub named : operation_named records (name_number s w.name) ≡ Some (n + place)

passed_by : (a b n : ℕ) (rest : Option ℕ) → (a == b) ≡ false → (if a == b then Some n else rest) ≡ rest
passed_by a b n rest e = ap (λ t. if t then Some n else rest) e

taken_here : (a b n : ℕ) (rest : Option ℕ) → a ≡ b → (if a == b then Some n else rest) ≡ Some (n + 0)
taken_here a b n rest e =
    let at : n ≡ n + 0 = omega arith in
    ap (λ t. if t then Some n else rest) (eq-eqb a b e) ∙ ap Some at

skipped : (s : Source) (rs : List OperationRec) (os : List Operation) (o : Operation) (n class : ℕ) (w : NamedOperation) →
    Meets s rs os (suc n) class w → Meets s rs (o ∷ os) n class w
skipped s rs os o n class w m =
    let at : suc n + m.place ≡ n + suc m.place = omega arith in
    record {
      place = suc m.place;
      operation = m.operation;
      is = m.is;
      of_class = m.of_class;
      of_kind = m.of_kind;
      seen = m.seen;
      named = m.named ∙ ap Some at;
    }

-- All of these are operations of the program.
abbrev Named : Source → List Operation → Type 0
Named s os = (i : ℕ) (o : Operation) → slice_get os i ≡ Some o → o.kind ≡ kind.Named →
    has_name (operation_names s.core.operations) o.name ≡ true

module _ (s : Source) (class : ℕ) (w : NamedOperation) where
  abbrev record_of : Operation → ℕ → OperationRec
  record_of o n = record { name = name_number s o.name; operation = n }

  first_meets : (o : Operation) (os : List Operation) (n : ℕ) (rs : List OperationRec) → o.class ≡ class →
      o.kind ≡ kind.Named →
      w ≡ as_seen o → Meets s (record_of o n ∷ rs) (o ∷ os) n class w
  first_meets o os n rs c k e = record {
    place = 0;
    operation = o;
    is = refl;
    of_class = c;
    of_kind = k;
    seen = e;
    named =
        taken_here (name_number s o.name) (name_number s w.name) n (operation_named rs (name_number s w.name))
        (ap (λ (v : NamedOperation). name_number s v.name) (sym e));
  }

  -- One behind it has another name, and so another number.
  later_meets : (o : Operation) (os ps : List Operation) (n : ℕ) (rs : List OperationRec) → Named s (o ∷ os) →
      o.kind ≡ kind.Named →
      has_name (texts ps) o.name ≡ false → IsIn w (exported_of ps) → Meets s rs os (suc n) class w →
      Meets s (record_of o n ∷ rs) (o ∷ os) n class w
  later_meets o os ps n rs there k d i m =
      let own : has_name (operation_names s.core.operations) o.name ≡ true = there 0 o refl k in
      let other : has_name (operation_names s.core.operations) w.name ≡ true =
      subst (λ name. has_name (operation_names s.core.operations) name ≡ true)
      (sym (ap (λ (v : NamedOperation). v.name) m.seen)) (there (suc m.place) m.operation m.is m.of_kind) in
      let apart : is_same o.name w.name ≡ false = by (is_same o.name w.name) refl in
      let differ : (name_number s o.name == name_number s w.name) ≡ false =
      sym (numbers_tell s o.name w.name own other) ∙ apart in
      let r : Meets s rs (o ∷ os) n class w = skipped s rs os o n class w m in
      record {
        place = r.place;
        operation = r.operation;
        is = r.is;
        of_class = r.of_class;
        of_kind = r.of_kind;
        seen = r.seen;
        named =
            passed_by (name_number s o.name) (name_number s w.name) n (operation_named rs (name_number s w.name)) differ
            ∙ r.named;
      }
    where
      by : (b : Bool) → is_same o.name w.name ≡ b → is_same o.name w.name ≡ false
      by true e = not_both (sym d ∙ has_name_same (texts ps) o.name w.name e ∙ exported_named ps w i)
      by false e = e

  abbrev Own : Bool → Kind → Operation → List Operation → List Operation
  Own b k o ps = (if b && is_named_kind k then o ∷ [] else []) ++ ps

  abbrev Records : Bool → Kind → Operation → ℕ → List OperationRec → List OperationRec
  Records b k o n rs = (if b && is_named k then record_of o n ∷ [] else []) ++ rs

  abbrev Later : List Operation → List Operation → List OperationRec → ℕ → Type 0
  Later os ps rs n = AreDistinct (texts ps) → IsIn w (exported_of ps) → Meets s rs os n class w

  of_kind :
      (o : Operation) (os ps : List Operation) (n : ℕ) (rs : List OperationRec) (k : Kind) (b : Bool) → o.kind ≡ k →
      (o.class == class) ≡ b → Named s (o ∷ os) → AreDistinct (texts (Own b k o ps)) → IsIn w (exported_of (Own b k o ps)) →
      Later os ps rs (suc n) → Meets s (Records b k o n rs) (o ∷ os) n class w
  of_kind o os ps n rs kind.Named true e f there d i later = by (exported_or_later o.is_exported w (as_seen o)
      (exported_of ps) i)
    where
      by : (w ≡ as_seen o) ⊎ IsIn w (exported_of ps) → Meets s (record_of o n ∷ rs) (o ∷ os) n class w
      by (inl g) = first_meets o os n rs (eqb-true o.class class f) e g
      by (inr j) = later_meets o os ps n rs there e d.0 j (later d.1 j)
  of_kind o os ps n rs kind.Named false e f there d i later = skipped s rs os o n class w (later d i)
  of_kind o os ps n rs kind.Initial true e f there d i later = skipped s rs os o n class w (later d i)
  of_kind o os ps n rs kind.Initial false e f there d i later = skipped s rs os o n class w (later d i)
  of_kind o os ps n rs kind.Process true e f there d i later = skipped s rs os o n class w (later d i)
  of_kind o os ps n rs kind.Process false e f there d i later = skipped s rs os o n class w (later d i)

  meets_from : (os : List Operation) (n : ℕ) → Named s os → AreDistinct (texts (operations_of_class class os)) →
      IsIn w (exported_of (operations_of_class class os)) → Meets s (operations_from s n os class) os n class w
  meets_from [] n there d i = absurd i
  meets_from (o ∷ os) n there d i =
      of_kind o os (operations_of_class class os) n (operations_from s (suc n) os class) o.kind (o.class == class) refl
      refl there d i
      (λ e j. meets_from os (suc n) (λ m. there (suc m)) e j)

  -- Each exported operation of a class is met by an operation of the class.
  pub each_met : AreDistinct (texts (operations_of_class class s.core.operations)) →
      IsIn w (exported_of (operations_of_class class s.core.operations)) →
      Meets s (operations_from s 1 s.core.operations class) s.core.operations 1 class w
  each_met d i = meets_from s.core.operations 1 (name_there s.core.operations) d i
