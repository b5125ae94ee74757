-- Lists in which each item comes before all that stand behind it.
use Rattle.std.proofs.Common.{◌≡◌, ◌<◌, ◌+◌, ℕ, zero, suc, List, [], ◌∷◌, ◌++◌, take, Some, sym, ap, ◌∙◌, subst, arith}
use Rattle.std.proofs.Common.{⊎_elim}
use Rattle.std.proofs.lemmas.Option.{same_Some}
use Rattle.std.specs.List.{flat_map}
use Rattle.std.specs.Prelude.{slice_get}
use Rattle.ec_base.specs.Stack.{top_of}
use Rattle.ec_packing.proofs.Joining.{has_joined, has_up_to}
use Rattle.ec_packing.specs.Packing.{up_to}
use Rattle.ec_world.proofs.Members.{has_either, has_first, rising_above, rising_tail}
use Rattle.ec_world.specs.Group.{Has, IsRising}

module _ {A : Type 0} (Before : A → A → Type 0) where
  abbrev pub Sorted : List A → Type 0
  Sorted [] = Unit {0}
  Sorted (x ∷ xs) = ((y : A) → Has xs y → Before x y) × Sorted xs

  -- an item comes before one that stands further behind
  pub sorted_at : (xs : List A) (i n : ℕ) (x y : A) → Sorted xs → slice_get xs i ≡ Some x → slice_get xs (i + suc n) ≡ Some y → Before x y
  sorted_at [] i n x y s e f = absurd cc
  sorted_at (z ∷ xs) zero n x y s e f =
      let at : zero + suc n ≡ suc n = omega arith in
      subst (λ (u : A). Before u y) (same_Some z x e)
      (s.0 y (record { at = n; is = sym (ap (slice_get (z ∷ xs)) at) ∙ f }))
  sorted_at (z ∷ xs) (suc i) n x y s e f =
      let at : suc i + suc n ≡ suc (i + suc n) = omega arith in
      sorted_at xs i n x y s.1 e (sym (ap (slice_get (z ∷ xs)) at) ∙ f)

  -- two lists end to end
  pub sorted_both : (xs ys : List A) → Sorted xs → Sorted ys → ((x y : A) → Has xs x → Has ys y → Before x y) → Sorted (xs ++ ys)
  sorted_both [] ys s t h = t
  sorted_both (x ∷ xs) ys s t h = (
    λ y g. ⊎_elim (λ (k : Has xs y). s.0 y k) (λ (k : Has ys y). h x y (has_first x xs) k) (has_either y xs ys g),
    sorted_both xs ys s.1 t (λ u y k g. h u y (record { at = suc k.at; is = k.is }) g),
  )

  pub sorted_up_to : (f : ℕ → List A) → ((i : ℕ) → Sorted (f i)) →
      ((i j : ℕ) (x y : A) → i < j → Has (f i) x → Has (f j) y → Before x y) → (n : ℕ) → Sorted (up_to f n)
  sorted_up_to f each h zero = tt
  sorted_up_to f each h (suc n) = sorted_both (up_to f n) (f n) (sorted_up_to f each h n) (each n)
      (λ x y k g. let z = has_up_to f n x k in h z.0 n x y z.1.0 z.1.1 g)

-- what comes of keys in order is in order
module _ {K A : Type 0} (KeyBefore : K → K → Type 0) (Before : A → A → Type 0) (f : K → List A) (each : (k : K) → Sorted Before (f k))
    (apart : (j k : K) (x y : A) → KeyBefore j k → Has (f j) x → Has (f k) y → Before x y) where
  pub sorted_over : (ks : List K) → Sorted KeyBefore ks → Sorted Before (flat_map f ks)
  sorted_over [] s = tt
  sorted_over (k ∷ ks) s = sorted_both Before (f k) (flat_map f ks) (each k) (sorted_over ks s.1)
      (λ x y h g. let z = has_joined f ks y g in apart k z.0 x y (s.0 z.0 z.1.0) h z.1.1)

rising_sorted : (xs : List ℕ) → IsRising xs → Sorted (λ i j. i < j) xs
rising_sorted [] r = tt
rising_sorted (x ∷ xs) r = (rising_above x xs r, rising_sorted xs (rising_tail x xs r))

-- what comes of rising numbers, in their order
pub sorted_joined : {A : Type 0} (Before : A → A → Type 0) (f : ℕ → List A) → ((i : ℕ) → Sorted Before (f i)) →
    ((i j : ℕ) (x y : A) → i < j → Has (f i) x → Has (f j) y → Before x y) → (xs : List ℕ) → IsRising xs → Sorted Before (flat_map f xs)
sorted_joined Before f each apart xs r = sorted_over (λ i j. i < j) Before f each apart xs (rising_sorted xs r)

-- what stands just before a place
pub top_taken : {A : Type 0} (xs : List A) (i : ℕ) (x : A) → slice_get xs i ≡ Some x → top_of (take (suc i) xs) ≡ Some x
top_taken [] i x e = absurd cc
top_taken (y ∷ []) zero x e = e
top_taken (y ∷ []) (suc i) x e = absurd cc
top_taken (y ∷ z ∷ zs) zero x e = e
top_taken (y ∷ z ∷ zs) (suc i) x e = top_taken (z ∷ zs) i x e
