-- Lists that are related one by one: ends, parts and places.
use Rattle.std.proofs.Common.{◌≡◌, ℕ, zero, suc, List, [], ◌∷◌, ◌++◌, length, Option, Some, None, refl, ap}
use Rattle.std.specs.Prelude.{slice_get, slice_set}
use Rattle.ec_base.specs.Stack.{top_of, below_of}
use Rattle.ec_world.specs.Agree.{AllTwo, Maybe}

module _ {A B : Type 0} where
  pub all-append : (R : A → B → Type 0) (xs xs' : List A) (ys ys' : List B) → AllTwo R xs ys → AllTwo R xs' ys' →
      AllTwo R (xs ++ xs') (ys ++ ys')
  all-append R [] xs' [] ys' h k = k
  all-append R (x ∷ xs) xs' (y ∷ ys) ys' h k = (h.0, all-append R xs xs' ys ys' h.1 k)
  all-append R [] xs' (y ∷ ys) ys' h k = absurd h
  all-append R (x ∷ xs) xs' [] ys' h k = absurd h

  pub all-length : (R : A → B → Type 0) (xs : List A) (ys : List B) → AllTwo R xs ys → length xs ≡ length ys
  all-length R [] [] h = refl
  all-length R (x ∷ xs) (y ∷ ys) h = ap suc (all-length R xs ys h.1)
  all-length R [] (y ∷ ys) h = absurd h
  all-length R (x ∷ xs) [] h = absurd h

  pub tops : (R : A → B → Type 0) (xs : List A) (ys : List B) → AllTwo R xs ys → Maybe R (top_of xs) (top_of ys)
  tops R [] [] h = tt
  tops R (x ∷ []) (y ∷ []) h = h.0
  tops R (x ∷ x' ∷ xs) (y ∷ y' ∷ ys) h = tops R (x' ∷ xs) (y' ∷ ys) h.1
  tops R (x ∷ []) (y ∷ y' ∷ ys) h = absurd h.1
  tops R (x ∷ x' ∷ xs) (y ∷ []) h = absurd h.1
  tops R [] (y ∷ ys) h = absurd h
  tops R (x ∷ xs) [] h = absurd h

  pub belows : (R : A → B → Type 0) (xs : List A) (ys : List B) → AllTwo R xs ys → AllTwo R (below_of xs) (below_of ys)
  belows R [] [] h = tt
  belows R (x ∷ []) (y ∷ []) h = tt
  belows R (x ∷ x' ∷ xs) (y ∷ y' ∷ ys) h = (h.0, belows R (x' ∷ xs) (y' ∷ ys) h.1)
  belows R (x ∷ []) (y ∷ y' ∷ ys) h = absurd h.1
  belows R (x ∷ x' ∷ xs) (y ∷ []) h = absurd h.1
  belows R [] (y ∷ ys) h = absurd h
  belows R (x ∷ xs) [] h = absurd h

  pub all-map : (R S : A → B → Type 0) → ((a : A) (b : B) → R a b → S a b) → (xs : List A) (ys : List B) → AllTwo R xs ys → AllTwo S xs ys
  all-map R S f [] [] h = tt
  all-map R S f (x ∷ xs) (y ∷ ys) h = (f x y h.0, all-map R S f xs ys h.1)
  all-map R S f [] (y ∷ ys) h = absurd h
  all-map R S f (x ∷ xs) [] h = absurd h

  pub all-set : (R : A → B → Type 0) (xs : List A) (ys : List B) (i : ℕ) (a : A) (b : B) → AllTwo R xs ys → R a b →
      AllTwo R (slice_set xs i a) (slice_set ys i b)
  all-set R [] [] i a b h k = tt
  all-set R (x ∷ xs) (y ∷ ys) zero a b h k = (k, h.1)
  all-set R (x ∷ xs) (y ∷ ys) (suc i) a b h k = (h.0, all-set R xs ys i a b h.1 k)
  all-set R [] (y ∷ ys) i a b h k = absurd h
  all-set R (x ∷ xs) [] i a b h k = absurd h

  pub all-get : (R : A → B → Type 0) (xs : List A) (ys : List B) (i : ℕ) → AllTwo R xs ys → Maybe R (slice_get xs i) (slice_get ys i)
  all-get R [] [] i h = tt
  all-get R (x ∷ xs) (y ∷ ys) zero h = h.0
  all-get R (x ∷ xs) (y ∷ ys) (suc i) h = all-get R xs ys i h.1
  all-get R [] (y ∷ ys) i h = absurd h
  all-get R (x ∷ xs) [] i h = absurd h
