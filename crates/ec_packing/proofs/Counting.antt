-- How many numbers there can be in a list in which none stands twice.
use Rattle.std.proofs.Common.{◌≡◌, ◌<◌, ◌≤◌, ◌+◌, ◌||◌, ◌⊎◌, ℕ, zero, suc, Bool, true, false, List, [], ◌∷◌, length, map, Some, refl, sym, ap, ◌∙◌, subst}
use Rattle.std.proofs.Common.{arith, eqb, eqb-true, inl, inr, ⊎_elim}
use Rattle.std.proofs.lemmas.List.{length-map}
use Rattle.std.proofs.lemmas.Map.Steps.{length-le_from_distinct_below}
use Rattle.std.proofs.lemmas.Option.{same_Some}
use Rattle.std.specs.List.{AllByRecursion, IsDistinct, list_any}
use Rattle.std.specs.Prelude.{slice_get}
use Rattle.ec_world.specs.Held.{Distinct}
use Rattle.ec_packing.proofs.Sorting.{Sorted, sorted_at}
use Rattle.ec_world.proofs.Members.{has_first, has_later, has_parts}
use Rattle.ec_world.specs.Group.{Has}

true_or_false : (b : Bool) → (b ≡ true) ⊎ (b ≡ false)
true_or_false true = inl refl
true_or_false false = inr refl

-- ---- none twice

distinct_tail : (x : ℕ) (xs : List ℕ) → Distinct (x ∷ xs) → Distinct xs
distinct_tail x xs h =
    record { once = λ i j y e f. let same : suc i ≡ suc j = h.once (suc i) (suc j) y e f in omega (arith, same) }

all_other : (x : ℕ) (xs : List ℕ) → (Has xs x → ⊥) → AllByRecursion (λ y. eqb x y ≡ false) xs
all_other x [] none = tt
all_other x (y ∷ xs) none = (
  ⊎_elim
      (λ (e : eqb x y ≡ true). absurd (none (subst (λ z. Has (y ∷ xs) z) (sym (eqb-true x y e)) (has_first y xs))))
      (λ (e : eqb x y ≡ false). e)
      (true_or_false (eqb x y)),
  all_other x xs (λ h. none (has_later y x xs h)),
)

is_distinct : (xs : List ℕ) → Distinct xs → IsDistinct eqb xs
unfolding IsDistinct
is_distinct [] h = tt
is_distinct (x ∷ xs) h = (
  all_other x xs (λ g. let no : zero ≡ suc g.at = h.once zero (suc g.at) x refl g.is in cc),
  is_distinct xs (distinct_tail x xs h),
)

any_has : (x : ℕ) (xs : List ℕ) → list_any (eqb x) xs ≡ true → Has xs x
any_has x [] e = absurd cc
any_has x (y ∷ xs) e = ⊎_elim
    (λ (same : eqb x y ≡ true). subst (λ z. Has (y ∷ xs) z) (sym (eqb-true x y same)) (has_first y xs))
    (λ (other : eqb x y ≡ false). has_later y x xs (any_has x xs (sym (ap (λ b. b || list_any (eqb x) xs) other) ∙ e)))
    (true_or_false (eqb x y))

-- as many as there are numbers below a bound
pub few_below : (xs : List ℕ) (n : ℕ) → Distinct xs → ((x : ℕ) → Has xs x → x < n) → length xs ≤ n
few_below xs n once below = length-le_from_distinct_below xs n (is_distinct xs once) (λ q e. below q (any_has q xs e))

-- and fewer where 0 is none of them
pub fewer_below : (xs : List ℕ) (n : ℕ) → Distinct xs → ((x : ℕ) → Has xs x → x < n) → ((x : ℕ) → Has xs x → 0 < x) → 0 < n → length xs < n
fewer_below xs n once below above some =
    let all : length (0 ∷ xs) ≤ n = few_below (0 ∷ xs) n (record { once = with_zero }) each in
    omega arith
  where
    no_zero : (i x : ℕ) → slice_get xs i ≡ Some x → Some 0 ≡ Some x → ⊥
    no_zero i x e f =
        let positive = above x (record { at = i; is = e }) in
        let zero_is : 0 ≡ x = same_Some 0 x f in
        omega arith

    with_zero : (i j x : ℕ) → slice_get (0 ∷ xs) i ≡ Some x → slice_get (0 ∷ xs) j ≡ Some x → i ≡ j
    with_zero zero zero x e f = refl
    with_zero zero (suc j) x e f = absurd (no_zero j x f e)
    with_zero (suc i) zero x e f = absurd (no_zero i x e f)
    with_zero (suc i) (suc j) x e f = ap suc (once.once i j x e f)

    each : (x : ℕ) → Has (0 ∷ xs) x → x < n
    each x h = ⊎_elim (λ (e : x ≡ 0). omega arith) (λ (g : Has xs x). below x g) (has_parts 0 x xs h)

-- ---- numbers of items

abbrev Three : ℕ → ℕ → Type 0
Three i j = (i ≡ j) ⊎ (((n : ℕ) × (j ≡ i + suc n)) ⊎ ((n : ℕ) × (i ≡ j + suc n)))

three : (i j : ℕ) → Three i j
three zero zero = inl refl
three zero (suc j) = inr (inl (j, omega arith))
three (suc i) zero = inr (inr (i, omega arith))
three (suc i) (suc j) = ⊎_elim
    (λ (e : i ≡ j). inl (ap suc e))
    (λ (o : ((n : ℕ) × (j ≡ i + suc n)) ⊎ ((n : ℕ) × (i ≡ j + suc n))). inr (⊎_elim
    (λ (l : (n : ℕ) × (j ≡ i + suc n)). inl (l.0, omega (arith, l.1)))
    (λ (r : (n : ℕ) × (i ≡ j + suc n)). inr (r.0, omega (arith, r.1)))
    o))
    (three i j)

module _ {A : Type 0} (f : A → ℕ) where
  pub got : (xs : List A) (i y : ℕ) → slice_get (map f xs) i ≡ Some y → (x : A) × ((slice_get xs i ≡ Some x) × (f x ≡ y))
  got [] i y e = absurd cc
  got (x ∷ xs) zero y e = (x, (refl, same_Some (f x) y e))
  got (x ∷ xs) (suc i) y e = got xs i y e

  -- where those of two places are the same only at one place
  distinct_by : (xs : List A) → ((i j : ℕ) (x y : A) → slice_get xs i ≡ Some x → slice_get xs j ≡ Some y → f x ≡ f y → i ≡ j) →
      Distinct (map f xs)
  distinct_by xs h = record {
    once = λ i j y e g.
        let a = got xs i y e in
        let b = got xs j y g in
        h i j a.0 b.0 a.1.0 b.1.0 (a.1.1 ∙ sym b.1.1);
  }

  module _ (Before : A → A → Type 0) (xs : List A) (sorted : Sorted Before xs)
      (differ : (x y : A) → Has xs x → Has xs y → Before x y → f x ≡ f y → ⊥) where
    -- where items come one before another, and those that do have different numbers
    pub sorted_once : Distinct (map f xs)
    sorted_once = distinct_by xs (λ i j x y e g same. by i j x y e g same (three i j))
      where
        apart : (i n : ℕ) (x y : A) → slice_get xs i ≡ Some x → slice_get xs (i + suc n) ≡ Some y → f x ≡ f y → ⊥
        apart i n x y e g same =
            differ x y (record { at = i; is = e }) (record { at = i + suc n; is = g }) (sorted_at Before xs i n x y sorted e g) same

        by : (i j : ℕ) (x y : A) → slice_get xs i ≡ Some x → slice_get xs j ≡ Some y → f x ≡ f y → Three i j → i ≡ j
        by i j x y e g same t = ⊎_elim
            (λ (here : i ≡ j). here)
            (λ (o : ((n : ℕ) × (j ≡ i + suc n)) ⊎ ((n : ℕ) × (i ≡ j + suc n))). ⊎_elim
            (λ (l : (n : ℕ) × (j ≡ i + suc n)). absurd (apart i l.0 x y e (ap (slice_get xs) (sym l.1) ∙ g) same))
            (λ (r : (n : ℕ) × (i ≡ j + suc n)). absurd (apart j r.0 y x g (ap (slice_get xs) (sym r.1) ∙ e) (sym same)))
            o)
            t

    -- how many items there can be
    pub few_items : (n : ℕ) → ((x : A) → Has xs x → f x < n) → length xs ≤ n
    few_items n below =
        let all = few_below (map f xs) n sorted_once (λ y h.
        let x = got xs h.at y h.is in
        let l = below x.0 (record { at = h.at; is = x.1.0 }) in
        let e = x.1.1 in
        omega arith) in
        let same = length-map xs f in
        omega (arith, same, all)

    pub fewer_items : (n : ℕ) → ((x : A) → Has xs x → f x < n) → ((x : A) → Has xs x → 0 < f x) → 0 < n → length xs < n
    fewer_items n below above some =
        let all = fewer_below (map f xs) n sorted_once
        (λ y h.
        let x = got xs h.at y h.is in
        let l = below x.0 (record { at = h.at; is = x.1.0 }) in
        let e = x.1.1 in
        omega arith)
        (λ y h.
        let x = got xs h.at y h.is in
        let l = above x.0 (record { at = h.at; is = x.1.0 }) in
        let e = x.1.1 in
        omega arith) some in
        let same = length-map xs f in
        omega (arith, same, all)
