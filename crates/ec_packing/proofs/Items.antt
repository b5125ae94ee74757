-- What holds of each item of a list.
use Rattle.std.proofs.Common.{◌≡◌, ◌≢◌, ◌≤◌, ◌+◌, ℕ, zero, suc, List, [], ◌∷◌, length, Some, sym, ap, ◌∙◌, subst, arith, get_or, ⊎_elim}
use Rattle.std.proofs.lemmas.Option.{same_Some}
use Rattle.std.specs.Prelude.{slice_get}
use Rattle.ec_base.proofs.Lists.{get_within}
use Rattle.ec_packing.specs.Narrow.{EachIs, FirstAre}
use Rattle.ec_things.proofs.Put.{same_or_not}

module _ {A : Type 0} where
  pub read_at : (xs : List A) (i : ℕ) (d x : A) → slice_get xs i ≡ Some x → get_or xs i d ≡ x
  read_at [] i d x e = absurd cc
  read_at (y ∷ xs) zero d x e = same_Some y x e
  read_at (y ∷ xs) (suc i) d x e = read_at xs i d x e

  module _ (P : A → Type 0) (xs : List A) where
    -- one more
    pub more_are : (i : ℕ) (x : A) → FirstAre P xs i → x ≡ get_or xs i x → P x → FirstAre P xs (i + 1)
    more_are i x first is h j y l e = ⊎_elim
        (λ (same : j ≡ i). subst P (is ∙ ap (λ k. get_or xs k x) (sym same) ∙ read_at xs j x y e) h)
        (λ (ne : j ≢ i). first j y (omega arith) e)
        (same_or_not j i)

    pub none_are : FirstAre P xs 0
    none_are j y l e = absurd (omega arith)

    pub all_are : (n : ℕ) → FirstAre P xs n → length xs ≤ n → EachIs P xs
    all_are n first all j y e = let l = get_within xs j y e in first j y (omega arith) e
