-- Items written one after the other, as a loop writes them: what is still to be written from here on makes up the whole.
use Rattle.std.proofs.Common.{◌≡◌, ℕ, zero, suc, ◌+◌, ◌≤◌, true, List, [], ◌∷◌, ◌++◌, length, take, drop, Some, refl, sym, ap, subst, ◌∙◌}
use Rattle.std.proofs.Common.{append_assoc, arith}
use Rattle.std.specs.Prelude.{slice_get}
use Rattle.std.proofs.lemmas.List.{append-nil}
use Rattle.ec_base.proofs.Lists.{drop_at, take_next}
use Rattle.ec_formats.specs.Format.{Format}
use Rattle.ec_formats.specs.Lists.{items_spell, items_fit}
use Rattle.ec_formats.proofs.Steps.{first_of_both, second_of_both}

module _ {A : Type 0} (item : List A → Format A) (xs : List A) (i : ℕ) (x : A) (here : slice_get xs i ≡ Some x) where
  fits_here : items_fit item (take i xs) (drop i xs) ≡ true → items_fit item (take i xs) (x ∷ drop (i + 1) xs) ≡ true
  fits_here h = subst (λ (ys : List A). items_fit item (take i xs) ys ≡ true) (drop_at xs i x here) h

  pub one_fits : items_fit item (take i xs) (drop i xs) ≡ true → (item (take i xs)).fits x ≡ true
  one_fits h = first_of_both _ _ (fits_here h)

  pub others_fit : items_fit item (take i xs) (drop i xs) ≡ true → items_fit item (take (i + 1) xs) (drop (i + 1) xs) ≡ true
  others_fit h =
      subst (λ (ys : List A). items_fit item ys (drop (i + 1) xs) ≡ true) (sym (take_next xs i x here))
      (second_of_both ((item (take i xs)).fits x) _ (fits_here h))

  pub spelled : (out new total : List ℕ) → new ≡ out ++ (item (take i xs)).spell x → out ++ items_spell item (take i xs) (drop i xs) ≡ total
      → new ++ items_spell item (take (i + 1) xs) (drop (i + 1) xs) ≡ total
  spelled out new total e so_far =
      let rest = items_spell item (take i xs ++ x ∷ []) (drop (i + 1) xs) in
      ap (λ (ys : List A). new ++ items_spell item ys (drop (i + 1) xs)) (take_next xs i x here)
      ∙ ap (λ (n : List ℕ). n ++ rest) e
      ∙ append_assoc out ((item (take i xs)).spell x) rest
      ∙ ap (λ (ys : List A). out ++ items_spell item (take i xs) ys) (sym (drop_at xs i x here))
      ∙ so_far

module _ {A : Type 0} where
  drop_nil : (i : ℕ) → drop {A = A} i [] ≡ []
  drop_nil zero = refl
  drop_nil (suc i) = refl

  drop_all : (xs : List A) (i : ℕ) → length xs ≤ i → drop i xs ≡ []
  drop_all [] i h = drop_nil i
  drop_all (x ∷ xs) zero h = absurd (omega arith)
  drop_all (x ∷ xs) (suc i) h = drop_all xs i (omega arith)

  pub all_spelled : (item : List A → Format A) (xs : List A) (i : ℕ) (out total : List ℕ) → length xs ≤ i
      → out ++ items_spell item (take i xs) (drop i xs) ≡ total → out ≡ total
  all_spelled item xs i out total h so_far =
      let e : out ++ items_spell item (take i xs) (drop i xs) ≡ out =
      ap (λ (ys : List A). out ++ items_spell item (take i xs) ys) (drop_all xs i h) ∙ append-nil out in
      sym e ∙ so_far
