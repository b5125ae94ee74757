-- Whether a number is in a list.
use Rattle.std.proofs.Common.{◌≡◌, ◌==◌, ◌||◌, ◌⊎◌, ℕ, Bool, true, false, List, [], ◌∷◌, refl, sym, ap, ◌∙◌, subst}
use Rattle.std.proofs.Common.{arith, inl, inr, ⊎_elim, eqb-true}
use Rattle.ec_world.proofs.Members.{has_first, has_later, has_none, has_parts}
use Rattle.ec_world.specs.Group.{Has, is_in}

true_or_false : (b : Bool) → (b ≡ true) ⊎ (b ≡ false)
true_or_false true = inl refl
true_or_false false = inr refl

same_number : (n : ℕ) → (n == n) ≡ true
same_number n = grind arith

or_true : (b : Bool) → (b || true) ≡ true
or_true true = refl
or_true false = refl

pub is_in_has : (y : ℕ) (xs : List ℕ) → is_in y xs ≡ true → Has xs y
is_in_has y [] e = absurd cc
is_in_has y (x ∷ xs) e = ⊎_elim
    (λ (same : (x == y) ≡ true). subst (λ z. Has (x ∷ xs) z) (eqb-true x y same) (has_first x xs))
    (λ (other : (x == y) ≡ false). has_later x y xs (is_in_has y xs (sym (ap (λ b. b || is_in y xs) other) ∙ e)))
    (true_or_false (x == y))

pub has_is_in : (y : ℕ) (xs : List ℕ) → Has xs y → is_in y xs ≡ true
has_is_in y [] h = absurd (has_none y h)
has_is_in y (x ∷ xs) h = ⊎_elim
    (λ (e : y ≡ x). ap (λ b. b || is_in y xs) (ap (λ z. x == z) e ∙ same_number x))
    (λ (k : Has xs y). ap (λ b. (x == y) || b) (has_is_in y xs k) ∙ or_true (x == y))
    (has_parts x y xs h)
