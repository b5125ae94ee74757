-- Items of lists that are joined, sums over them, and numbers that are among some.
use Rattle.std.proofs.Common.{◌≡◌, ℕ, zero, suc, ◌==◌, ◌||◌, ◌⊎◌, inl, inr, ⊎_elim, Bool, true, false, List, [], ◌∷◌}
use Rattle.std.proofs.Common.{length, map, Some, refl, sym, ap, ◌∙◌, subst, arith}
use Rattle.std.proofs.lemmas.Grind.{common_steps}
use Rattle.std.proofs.lemmas.List.Sums.{sum_by-append, sum_by-cons}
use Rattle.std.specs.List.{flat_map, sum_by}
use Rattle.std.specs.Prelude.{slice_get}
use Rattle.ec_base.proofs.Lists.{get_there, get_within}
use Rattle.ec_world.specs.Held.{Distinct}
use Rattle.ec_parcels.proofs.Rising.{once_both, once_first, once_none, once_tail}
use Rattle.ec_world.proofs.Members.{has_back, has_either, has_first, has_front, has_later, has_none, has_parts}
use Rattle.ec_world.specs.Group.{Has, is_in}

-- ---- lists that are joined

module _ {X A : Type 0} (f : X → List A) where
  -- an item of one of the lists
  pub record InOne (xs : List X) (a : A) : Type 0 where
    pub at : ℕ
    pub which : X
    pub there : slice_get xs at ≡ Some which
    pub has : Has (f which) a

  pub in_one : (xs : List X) (a : A) → Has (flat_map f xs) a → InOne xs a
  in_one [] a h = absurd (has_none a h)
  in_one (x ∷ xs) a h = ⊎_elim
      (λ (g : Has (f x) a). record { at = zero; which = x; there = refl; has = g })
      (λ (g : Has (flat_map f xs) a).
      let t = in_one xs a g in
      record { at = suc t.at; which = t.which; there = t.there; has = t.has })
      (has_either a (f x) (flat_map f xs) h)

  pub one_in : (xs : List X) (x : X) (a : A) → Has xs x → Has (f x) a → Has (flat_map f xs) a
  one_in [] x a h g = absurd (has_none x h)
  one_in (y ∷ ys) x a h g = ⊎_elim
      (λ (e : x ≡ y). has_front a (f y) (flat_map f ys) (subst (λ (z : X). Has (f z) a) e g))
      (λ (l : Has ys x). has_back a (f y) (flat_map f ys) (one_in ys x a l g))
      (has_parts y x ys h)

module _ {X A : Type 0} (f : X → List A) (At : ℕ → A → Type 0) (one : (j k : ℕ) (a : A) → At j a → At k a → j ≡ k) where
  -- Where each list is of another place, and an item of one place alone, no item stands twice in all of them together.
  pub joined_once : (ns : List ℕ) (xs : List X) → length ns ≡ length xs → Distinct ns → ((x : X) → Has xs x → Distinct (f x)) →
      ((i k : ℕ) (x : X) → slice_get ns i ≡ Some k → slice_get xs i ≡ Some x → (a : A) → Has (f x) a → At k a) →
      Distinct (flat_map f xs)
  joined_once ns [] many once each at = once_none
  joined_once [] (x ∷ xs) many once each at = absurd (omega arith)
  joined_once (n ∷ ns) (x ∷ xs) many once each at =
      let same : length ns ≡ length xs = omega arith in
      once_both (f x) (flat_map f xs) (each x (has_first x xs))
      (joined_once ns xs same (once_tail n ns once) (λ y h. each y (has_later x y xs h)) (λ i k y e g. at (suc i) k y e g))
      (λ a h g.
      let m = in_one f xs a g in
      let l = get_within xs m.at m.which m.there in
      let far = get_there ns m.at (omega (arith, l, same)) in
      let is : n ≡ far.0 = one n far.0 a (at zero n x refl refl a h) (at (suc m.at) far.0 m.which far.1 m.there a m.has) in
      once_first n ns once (record { at = m.at; is = far.1 ∙ ap Some (sym is) }))

-- ---- sums

module _ {X : Type 0} (f : X → ℕ) where
  pub sum_zero : (xs : List X) → ((x : X) → Has xs x → f x ≡ 0) → sum_by f xs ≡ 0
  sum_zero [] none = refl
  sum_zero (x ∷ xs) none =
      let here : f x ≡ 0 = none x (has_first x xs) in
      let rest : sum_by f xs ≡ 0 = sum_zero xs (λ y h. none y (has_later x y xs h)) in
      omega (arith, sum_by-cons f x xs, here, rest)

  pub sum_ones : (xs : List X) → ((x : X) → Has xs x → f x ≡ 1) → sum_by f xs ≡ length xs
  sum_ones [] one = refl
  sum_ones (x ∷ xs) one =
      let here : f x ≡ 1 = one x (has_first x xs) in
      let rest : sum_by f xs ≡ length xs = sum_ones xs (λ y h. one y (has_later x y xs h)) in
      omega (arith, sum_by-cons f x xs, here, rest)

  pub sum_same : (g : X → ℕ) (xs : List X) → ((x : X) → Has xs x → f x ≡ g x) → sum_by f xs ≡ sum_by g xs
  sum_same g [] same = refl
  sum_same g (x ∷ xs) same =
      let here : f x ≡ g x = same x (has_first x xs) in
      let rest : sum_by f xs ≡ sum_by g xs = sum_same g xs (λ y h. same y (has_later x y xs h)) in
      omega (arith, sum_by-cons f x xs, sum_by-cons g x xs, here, rest)

module _ {X A : Type 0} (f : A → ℕ) where
  pub sum_map : (g : X → A) (xs : List X) → sum_by f (map g xs) ≡ sum_by (λ x. f (g x)) xs
  sum_map g [] = refl
  sum_map g (x ∷ xs) =
      let rest : sum_by f (map g xs) ≡ sum_by (λ y. f (g y)) xs = sum_map g xs in
      omega (arith, sum_by-cons f (g x) (map g xs), sum_by-cons (λ y. f (g y)) x xs, rest)

  pub sum_joined : (g : X → List A) (xs : List X) → sum_by f (flat_map g xs) ≡ sum_by (λ x. sum_by f (g x)) xs
  sum_joined g [] = refl
  sum_joined g (x ∷ xs) =
      let rest : sum_by f (flat_map g xs) ≡ sum_by (λ y. sum_by f (g y)) xs = sum_joined g xs in
      omega (arith, sum_by-append f (g x) (flat_map g xs), sum_by-cons (λ y. sum_by f (g y)) x xs, rest)

-- ---- numbers among some

is_in_step : (y x : ℕ) (xs : List ℕ) (b : Bool) → (x == y) ≡ b → (b || is_in y xs) ≡ true → (y ≡ x) ⊎ (is_in y xs ≡ true)
is_in_step y x xs true e h = inl (grind (arith, common_steps))
is_in_step y x xs false e h = inr h

pub is_in_has : (y : ℕ) (xs : List ℕ) → is_in y xs ≡ true → Has xs y
is_in_has y [] h = absurd cc
is_in_has y (x ∷ xs) h = ⊎_elim
    (λ (e : y ≡ x). rw e (has_first x xs))
    (λ (k : is_in y xs ≡ true). has_later x y xs (is_in_has y xs k))
    (is_in_step y x xs (x == y) refl h)

or_true : (b : Bool) → (b || true) ≡ true
or_true true = refl
or_true false = refl

same_number : (x : ℕ) → (x == x) ≡ true
same_number x = grind (arith, common_steps)

pub has_is_in : (y : ℕ) (xs : List ℕ) → Has xs y → is_in y xs ≡ true
has_is_in y [] h = absurd (has_none y h)
has_is_in y (x ∷ xs) h = ⊎_elim
    (λ (e : y ≡ x). ap (λ n. (x == n) || is_in y xs) e ∙ ap (λ b. b || is_in y xs) (same_number x))
    (λ (k : Has xs y). ap (λ b. (x == y) || b) (has_is_in y xs k) ∙ or_true (x == y))
    (has_parts x y xs h)

true_or_false : (b : Bool) → (b ≡ true) ⊎ (b ≡ false)
true_or_false true = inl refl
true_or_false false = inr refl

-- a number is among some, or is_in tells that it isn't
pub has_or_not : (xs : List ℕ) (y : ℕ) → Has xs y ⊎ (is_in y xs ≡ false)
has_or_not xs y = ⊎_elim
    (λ (e : is_in y xs ≡ true). inl (is_in_has y xs e))
    (λ (e : is_in y xs ≡ false). inr e)
    (true_or_false (is_in y xs))
