-- Items of lists, where one is set.
use Rattle.std.proofs.Common.{◌≡◌, ◌≢◌, ℕ, zero, suc, ◌+◌, ◌<◌, List, [], ◌∷◌, ◌++◌, length, take, drop, Some, refl, ap, arith, add-one}
use Rattle.std.specs.Prelude.{slice_get, slice_set}

module _ {A : Type 0} where
  pub get_set_same : (xs : List A) (i : ℕ) (y : A) → i < length xs → slice_get (slice_set xs i y) i ≡ Some y
  get_set_same [] i y h = absurd (omega arith)
  get_set_same (x ∷ xs) zero y h = refl
  get_set_same (x ∷ xs) (suc i) y h = get_set_same xs i y (omega arith)

  pub get_set_other : (xs : List A) (i j : ℕ) (y : A) → j ≢ i → slice_get (slice_set xs i y) j ≡ slice_get xs j
  get_set_other [] i j y h = refl
  get_set_other (x ∷ xs) zero zero y h = absurd (h refl)
  get_set_other (x ∷ xs) zero (suc j) y h = refl
  get_set_other (x ∷ xs) (suc i) zero y h = refl
  get_set_other (x ∷ xs) (suc i) (suc j) y h = get_set_other xs i j y (λ e. h (ap suc e))

  pub length_set : (xs : List A) (i : ℕ) (y : A) → length (slice_set xs i y) ≡ length xs
  length_set [] i y = refl
  length_set (x ∷ xs) zero y = refl
  length_set (x ∷ xs) (suc i) y = ap suc (length_set xs i y)

  -- setting what is there changes nothing
  pub set_there : (xs : List A) (i : ℕ) (y : A) → slice_get xs i ≡ Some y → slice_set xs i y ≡ xs
  set_there [] i y e = refl
  set_there (x ∷ xs) zero y e = cc
  set_there (x ∷ xs) (suc i) y e = ap (λ r. x ∷ r) (set_there xs i y e)

  pub get_there : (xs : List A) (i : ℕ) → i < length xs → (y : A) × (slice_get xs i ≡ Some y)
  get_there [] i h = absurd (omega arith)
  get_there (x ∷ xs) zero h = (x, refl)
  get_there (x ∷ xs) (suc i) h = get_there xs i (omega arith)

  pub get_within : (xs : List A) (i : ℕ) (y : A) → slice_get xs i ≡ Some y → i < length xs
  get_within [] i y e = cc
  get_within (x ∷ xs) zero y e = omega arith
  get_within (x ∷ xs) (suc i) y e = let h = get_within xs i y e in omega arith

  -- the list from a place on begins with what stands there
  pub drop_at : (xs : List A) (i : ℕ) (x : A) → slice_get xs i ≡ Some x → drop i xs ≡ x ∷ drop (i + 1) xs
  drop_at [] i x e = cc
  drop_at (y ∷ ys) zero x e = cc
  drop_at (y ∷ ys) (suc i) x e = rw add-one (rw add-one at (drop_at ys i x e))

  -- one item more of a list
  pub take_next : (xs : List A) (i : ℕ) (x : A) → slice_get xs i ≡ Some x → take (i + 1) xs ≡ take i xs ++ x ∷ []
  take_next [] i x e = cc
  take_next (y ∷ ys) zero x e = cc
  take_next (y ∷ ys) (suc i) x e = rw add-one (ap (λ r. y ∷ r) (rw add-one at (take_next ys i x e)))
