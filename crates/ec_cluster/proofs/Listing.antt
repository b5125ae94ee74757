-- Lists of what a function has at numbers from one on.
use Rattle.std.proofs.Common.{◌≡◌, ◌≢◌, ℕ, zero, suc, ◌+◌, ◌<◌, ◌≤◌, List, [], ◌∷◌, length, Some, None, refl, ap, ◌∙◌, arith, replicate}
use Rattle.std.specs.Prelude.{slice_get, slice_set}
use Rattle.ec_cluster.specs.Each.{each_from}

module _ {A : Type 0} (f : ℕ → A) where
  pub each-length : (from n : ℕ) → length (each_from f from n) ≡ n
  unfolding each_from
  each-length from zero = refl
  each-length from (suc n) = ap suc (each-length (suc from) n)

  pub each-get : (from n i : ℕ) → i < n → slice_get (each_from f from n) i ≡ Some (f (from + i))
  unfolding each_from
  each-get from zero i l = absurd (omega arith)
  each-get from (suc n) zero l = let e : from ≡ from + 0 = omega arith in ap (λ k. Some (f k)) e
  each-get from (suc n) (suc i) l =
      let e : suc from + i ≡ from + suc i = omega arith in
      each-get (suc from) n i (omega arith) ∙ ap (λ k. Some (f k)) e

  pub each-past : (from n i : ℕ) → n ≤ i → slice_get (each_from f from n) i ≡ None
  unfolding each_from
  each-past from zero i l = refl
  each-past from (suc n) zero l = absurd (omega arith)
  each-past from (suc n) (suc i) l = each-past (suc from) n i (omega arith)

  -- a list is that of a function which has each item at its place
  pub each-is : (from : ℕ) (xs : List A) → ((i : ℕ) (x : A) → slice_get xs i ≡ Some x → f (from + i) ≡ x) →
      each_from f from (length xs) ≡ xs
  unfolding each_from
  each-is from [] h = refl
  each-is from (x ∷ xs) h =
      let here : from ≡ from + 0 = omega arith in
      let first : f from ≡ x = ap f here ∙ h 0 x refl in
      let rest : each_from f (suc from) (length xs) ≡ xs = each-is (suc from) xs (λ i y e.
      let there : suc from + i ≡ from + suc i = omega arith in ap f there ∙ h (suc i) y e) in
      cc

  pub each-same : (g : ℕ → A) (from n : ℕ) → ((j : ℕ) → from ≤ j → g j ≡ f j) → each_from g from n ≡ each_from f from n
  unfolding each_from
  each-same g from zero h = refl
  each-same g from (suc n) h =
      let first : g from ≡ f from = h from (omega arith) in
      let rest : each_from g (suc from) n ≡ each_from f (suc from) n = each-same g (suc from) n (λ j l. h j (omega arith)) in
      cc

  -- a function that differs at one number has a list that differs there
  pub each-set : (g : ℕ → A) (a : A) (from n i : ℕ) → i < n → g (from + i) ≡ a → ((j : ℕ) → j ≢ from + i → g j ≡ f j) →
      each_from g from n ≡ slice_set (each_from f from n) i a
  unfolding each_from
  each-set g a from zero i l e h = absurd (omega arith)
  each-set g a from (suc n) zero l e h =
      let here : from ≡ from + 0 = omega arith in
      let first : g from ≡ a = ap g here ∙ e in
      let rest : each_from g (suc from) n ≡ each_from f (suc from) n = each-same g (suc from) n (λ j k. h j (λ q. absurd (omega arith))) in
      cc
  each-set g a from (suc n) (suc i) l e h =
      let there : suc from + i ≡ from + suc i = omega arith in
      let first : g from ≡ f from = h from (λ q. absurd (omega arith)) in
      let rest : each_from g (suc from) n ≡ slice_set (each_from f (suc from) n) i a =
      each-set g a (suc from) n i (omega arith) (ap g there ∙ e) (λ j ne. h j (λ q. ne (omega arith))) in
      cc

  -- a function with one value has a list of it
  pub each-one : (a : A) (from n : ℕ) → ((j : ℕ) → f j ≡ a) → each_from f from n ≡ replicate n a
  unfolding each_from
  each-one a from zero h = refl
  each-one a from (suc n) h =
      let first : f from ≡ a = h from in let rest : each_from f (suc from) n ≡ replicate n a = each-one a (suc from) n h in cc
