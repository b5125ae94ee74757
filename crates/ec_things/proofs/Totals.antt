-- Sums of two functions that agree on all items of a list, or on all but one.
use Rattle.std.proofs.Common.{◌≡◌, ◌≢◌, ℕ, zero, suc, ◌+◌, List, [], ◌∷◌, Some, refl, arith}
use Rattle.std.specs.Prelude.{slice_get}
use Rattle.ec_world.specs.Held.{total}

module _ {A : Type 0} (f g : ℕ → A → ℕ) where
  -- they agree on each item
  pub total_same : (from : ℕ) (xs : List A) → ((i j : ℕ) (x : A) → slice_get xs i ≡ Some x → j ≡ from + i → g j x ≡ f j x) →
      total g from xs ≡ total f from xs
  total_same from [] same = refl
  total_same from (x ∷ xs) same =
      let here : g from x ≡ f from x = same zero from x refl (omega arith) in
      let rest : total g (suc from) xs ≡ total f (suc from) xs =
      total_same (suc from) xs (λ i j y e at. same (suc i) j y e (omega arith)) in
      omega arith

  -- they agree but at place j, where x stands
  pub total_but : (from : ℕ) (xs : List A) (i j : ℕ) (x : A) → slice_get xs i ≡ Some x → j ≡ from + i →
      ((n : ℕ) (y : A) → n ≢ j → g n y ≡ f n y) → total g from xs + f j x ≡ total f from xs + g j x
  total_but from [] i j x e at others = cc
  total_but from (z ∷ zs) zero j x e at others =
      let same : j ≡ from = omega arith in
      let is : z ≡ x = cc in
      let rest : total g (suc from) zs ≡ total f (suc from) zs =
      total_same (suc from) zs (λ i n y q there. others n y (λ bad. omega arith)) in
      rw (same, is) (omega arith)
  total_but from (z ∷ zs) (suc i) j x e at others =
      let here : g from z ≡ f from z = others from z (λ bad. omega arith) in
      let rest : total g (suc from) zs + f j x ≡ total f (suc from) zs + g j x =
      total_but (suc from) zs i j x e (omega arith) others in
      omega arith
