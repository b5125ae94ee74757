-- A class has one number, and a number one class.
use Rattle.std.proofs.Common.{◌≡◌, ℕ, ◌+◌, ◌-◌, ◌<◌, ◌≤◌, ◌==◌, Bool, true, false, List, length, get_or, Option, Some, None}
use Rattle.std.proofs.Common.{refl, sym, ap, ◌∙◌, subst, arith}
use Rattle.std.proofs.lemmas.Bool.{and_from, and_parts, eq-eqb, eqb-true, false_from_ne_true, le-ltb, lt-ltb, ltb-false, ltb-true, ne_eqb}
use Rattle.std.proofs.lemmas.List.Quantifiers.{position-Some}
use Rattle.std.proofs.lemmas.List.Sums.{position_or_len_is}
use Rattle.std.proofs.lemmas.Option.{same_Some, slice_get-get_or}
use Rattle.std.specs.List.{position_or_len}
use Rattle.std.specs.Prelude.{if◌then◌else◌, nat_lt, option_map, slice_get}
use Rattle.ec_base.proofs.Lists.{get_within}
use Rattle.ec_parcels.specs.Classes.{ClassTable, IsClassTable, class_of, number_of, place_of, program_number, vector_of}
use Rattle.ec_world.specs.Held.{Distinct}
use Rattle.ec_world.specs.Objects.{is_same_plain, is_same_vector}
use Rattle.ec_world.specs.declared.class.ClassNo.{ClassNo}
use Rattle.ec_world.specs.declared.class.ClassNo.TheVariants.{Node, Program, Made, Vector}
use Rattle.ec_world.specs.declared.class.PlainType.{PlainType}
use Rattle.ec_world.specs.declared.class.PlainType.TheVariants as plain
use Rattle.ec_world.specs.declared.class.VectorType.{VectorType}

-- ---- types that are the same

never : {A : Type 0} → false ≡ true → A
never h = absurd cc

plain_one : (a b : PlainType) → is_same_plain a b ≡ true → a ≡ b
plain_one plain.Integer plain.Integer h = refl
plain_one plain.Boolean plain.Boolean h = refl
plain_one plain.Bytes plain.Bytes h = refl
plain_one plain.Any plain.Any h = refl
plain_one plain.Node plain.Node h = refl
plain_one (plain.Named a) (plain.Named b) h = ap plain.Named (eqb-true a b h)
plain_one _ _ h = never h

plain_same : (a : PlainType) → is_same_plain a a ≡ true
plain_same plain.Integer = refl
plain_same plain.Boolean = refl
plain_same plain.Bytes = refl
plain_same plain.Any = refl
plain_same plain.Node = refl
plain_same (plain.Named a) = eq-eqb a a refl

abbrev vector : ℕ → PlainType → VectorType
vector inner of = record { inner = inner; of = of }

pub vector_one : (a b : VectorType) → is_same_vector a b ≡ true → a ≡ b
vector_one a b h =
    let both = and_parts (a.inner == b.inner) (is_same_plain a.of b.of) h in
    ap (λ n. vector n a.of) (eqb-true a.inner b.inner both.0) ∙ ap (vector b.inner) (plain_one a.of b.of both.1)

pub vector_same : (a : VectorType) → is_same_vector a a ≡ true
vector_same a = and_from (a.inner == a.inner) (is_same_plain a.of a.of) (eq-eqb a.inner a.inner refl) (plain_same a.of)

-- ---- the place of a vector type

abbrev is_it : VectorType → VectorType → Bool
is_it of v = is_same_vector v of

-- it stands at its place
stands_there : (vectors : List VectorType) (of : VectorType) (i : ℕ) → place_of vectors of ≡ Some i → slice_get vectors i ≡ Some of
stands_there vectors of i e =
    let first = position-Some (is_it of) vectors i of e in
    slice_get-get_or vectors i of first.0 ∙ ap Some (vector_one (get_or vectors i of) of first.1)

-- what stands somewhere has its place there
has_place : (vectors : List VectorType) (of : VectorType) (i : ℕ) → Distinct vectors → slice_get vectors i ≡ Some of →
    place_of vectors of ≡ Some i
has_place vectors of i once e =
    let within = get_within vectors i of e in
    let there : get_or vectors i of ≡ of = same_Some (get_or vectors i of) of (sym (slice_get-get_or vectors i of within) ∙ e) in
    let first : position_or_len (is_it of) vectors ≡ i =
    position_or_len_is (is_it of) vectors i of (omega arith)
    (λ k l. false_from_ne_true (is_it of (get_or vectors k of)) (λ h.
    let same = vector_one (get_or vectors k of) of h in
    let at : k ≡ i = once.once k i of (slice_get-get_or vectors k of (omega arith) ∙ ap Some same) e in
    omega (arith, l, at)))
    (λ l. ap (is_it of) there ∙ vector_same of) in
    ap (λ n. if nat_lt n (length vectors) then Some n else None) first
    ∙ ap (λ b. if b then Some i else None) (lt-ltb i (length vectors) within)

-- ---- the class of a number

module _ (t : ClassTable) (keeps : IsClassTable t) where
  class_made : (number : ℕ) → number < t.made → class_of t number ≡ Some (Made number)
  class_made number l =
      ap (λ b. if b then Some (Made number) else if number == program_number then Some Program else vector_of t number)
      (lt-ltb number t.made l)

  class_behind : (number : ℕ) → t.made ≤ number →
      class_of t number ≡ (if number == program_number then Some Program else vector_of t number)
  class_behind number l =
      ap (λ b. if b then Some (Made number) else if number == program_number then Some Program else vector_of t number)
      (le-ltb number t.made l)

  class_last : class_of t program_number ≡ Some Program
  class_last = (let few = keeps.few in class_behind program_number (omega (arith, few)))

  class_vector : (i : ℕ) (of : VectorType) → slice_get t.vectors i ≡ Some of → class_of t (t.made + i) ≡ Some (Vector of)
  class_vector i of e =
      let within = get_within t.vectors i of e in
      let few = keeps.few in
      let behind : (t.made + i) - t.made ≡ i = omega arith in
      class_behind (t.made + i) (omega arith)
      ∙ ap (λ b. if b then Some Program else vector_of t (t.made + i))
      (ne_eqb (t.made + i) program_number (λ h. omega (arith, h, within, few)))
      ∙ ap (λ k. option_map Vector (slice_get t.vectors k)) behind
      ∙ ap (option_map Vector) e

  -- ---- from a class to its number, and back

  made_again : (place number : ℕ) → (b : Bool) → nat_lt place t.made ≡ b → (if b then Some place else None) ≡ Some number →
      class_of t number ≡ Some (Made place)
  made_again place number true test e =
      let is : place ≡ number = same_Some place number e in
      subst (λ n. class_of t n ≡ Some (Made place)) is (class_made place (ltb-true place t.made test))
  made_again place number false test e = absurd cc

  vector_again : (of : VectorType) (number : ℕ) (place : Option ℕ) → place_of t.vectors of ≡ place →
      option_map (λ i. t.made + i) place ≡ Some number → class_of t number ≡ Some (Vector of)
  vector_again of number None at e = absurd cc
  vector_again of number (Some i) at e =
      let is : t.made + i ≡ number = same_Some (t.made + i) number e in
      subst (λ n. class_of t n ≡ Some (Vector of)) is (class_vector i of (stands_there t.vectors of i at))

  pub class_again : (class : ClassNo) (number : ℕ) → number_of t class ≡ Some number → class_of t number ≡ Some class
  class_again Node number e = absurd cc
  class_again Program number e =
      let is : program_number ≡ number = same_Some program_number number e in
      subst (λ n. class_of t n ≡ Some Program) is class_last
  class_again (Made place) number e = made_again place number (nat_lt place t.made) refl e
  class_again (Vector of) number e = vector_again of number (place_of t.vectors of) refl e

  -- ---- from a number to its class, and back

  of_made : (class : ClassNo) (number : ℕ) → number < t.made → Some (Made number) ≡ Some class → number_of t class ≡ Some number
  of_made class number l e =
      let is : Made number ≡ class = same_Some (Made number) class e in
      subst (λ (k : ClassNo). number_of t k ≡ Some number) is
      (ap (λ b. if b then Some number else None) (lt-ltb number t.made l))

  of_vector : (class : ClassNo) (number : ℕ) → t.made ≤ number → (found : Option VectorType) →
      slice_get t.vectors (number - t.made) ≡ found → option_map Vector found ≡ Some class → number_of t class ≡ Some number
  of_vector class number l None there e = absurd cc
  of_vector class number l (Some of) there e =
      let is : Vector of ≡ class = same_Some (Vector of) class e in
      let again : t.made + (number - t.made) ≡ number = omega arith in
      subst (λ (k : ClassNo). number_of t k ≡ Some number) is
      (ap (option_map (λ i. t.made + i)) (has_place t.vectors of (number - t.made) keeps.once there) ∙ ap Some again)

  of_behind : (class : ClassNo) (number : ℕ) → t.made ≤ number → (b : Bool) → (number == program_number) ≡ b →
      (if b then Some Program else vector_of t number) ≡ Some class → number_of t class ≡ Some number
  of_behind class number l true test e =
      let is : Program ≡ class = same_Some Program class e in
      subst (λ (k : ClassNo). number_of t k ≡ Some number) is (ap Some (sym (eqb-true number program_number test)))
  of_behind class number l false test e =
      of_vector class number l (slice_get t.vectors (number - t.made)) refl e

  of_number : (class : ClassNo) (number : ℕ) → (b : Bool) → nat_lt number t.made ≡ b →
      (if b then Some (Made number) else if number == program_number then Some Program else vector_of t number) ≡ Some class →
      number_of t class ≡ Some number
  of_number class number true test e = of_made class number (ltb-true number t.made test) e
  of_number class number false test e =
      of_behind class number (ltb-false number t.made test) (number == program_number) refl e

  pub number_again : (class : ClassNo) (number : ℕ) → class_of t number ≡ Some class → number_of t class ≡ Some number
  number_again class number e = of_number class number (nat_lt number t.made) refl e
