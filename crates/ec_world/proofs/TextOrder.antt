-- The order of slices is that of texts.
use Rattle.std.proofs.Common.{◌≡◌, ℕ, Bool, List, Some, refl, arith}
use Rattle.std.specs.Prelude.{not}
use Rattle.std.specs.Ordering.{nat_cmp, is_lt, is_le, is_gt, is_ge, is_some_and}
use Rattle.std.specs.Cmp.Lexicographic.{slice_partial_cmp}
use Rattle.std.proofs.lemmas.Cmp.{same_from_slice_cmp_tested}
use Rattle.std.proofs.lemmas.Bool.Decides.{nat_tests}
use Rattle.ec_world.specs.Texts.{is_before}

pub less : (s t : List ℕ) (r : Bool) → r ≡ is_some_and is_lt (slice_partial_cmp (λ x y. Some (nat_cmp x y)) s t) → r ≡ is_before s t
less = same_from_slice_cmp_tested nat_cmp is_lt is_before refl (λ _ _. refl) (λ _ _. refl) (λ x y s t o h. grind (arith, nat_tests))

pub less_equal : (s t : List ℕ) (r : Bool) → r ≡ is_some_and is_le (slice_partial_cmp (λ x y. Some (nat_cmp x y)) s t) →
    r ≡ not (is_before t s)
less_equal = same_from_slice_cmp_tested nat_cmp is_le (λ s t. not (is_before t s)) refl (λ _ _. refl) (λ _ _. refl)
    (λ x y s t o h. grind (arith, nat_tests))

pub more : (s t : List ℕ) (r : Bool) → r ≡ is_some_and is_gt (slice_partial_cmp (λ x y. Some (nat_cmp x y)) s t) → r ≡ is_before t s
more = same_from_slice_cmp_tested nat_cmp is_gt (λ s t. is_before t s) refl (λ _ _. refl) (λ _ _. refl)
    (λ x y s t o h. grind (arith, nat_tests))

pub more_equal : (s t : List ℕ) (r : Bool) → r ≡ is_some_and is_ge (slice_partial_cmp (λ x y. Some (nat_cmp x y)) s t) →
    r ≡ not (is_before s t)
more_equal = same_from_slice_cmp_tested nat_cmp is_ge (λ s t. not (is_before s t)) refl (λ _ _. refl) (λ _ _. refl)
    (λ x y s t o h. grind (arith, nat_tests))
