-- Counts that stand still, and what lists of parts give one behind another.
use Rattle.std.proofs.Common.{◌≡◌, ℕ, ◌-◌, ◌^◌, ◌≤◌, List, [], ◌∷◌, ◌++◌, refl, sym, ap, ◌∙◌, arith, append_assoc}
use Rattle.ec_rules.specs.Lists.{each, plus, total}

-- ---- sums

pub plus_assoc : (a b c : ℕ) → plus (plus a b) c ≡ plus a (plus b c)
plus_assoc a b c = omega arith

pub none_plus : (a : ℕ) → a ≤ 2 ^ 64 - 1 → plus 0 a ≡ a
none_plus a h = omega arith

pub plus_small : (a b : ℕ) → plus a b ≤ 2 ^ 64 - 1
plus_small a b = omega arith

module _ {A : Type 0} where
  pub total_small : (f : A → ℕ) (xs : List A) → total f xs ≤ 2 ^ 64 - 1
  total_small f [] = omega arith
  total_small f (x ∷ xs) = plus_small (f x) (total f xs)

  -- a count from 0
  pub total_from_none : (f : A → ℕ) (xs : List A) → plus 0 (total f xs) ≡ total f xs
  total_from_none f xs = none_plus (total f xs) (total_small f xs)

  pub each_joined : {B : Type 0} (f : A → List B) (xs ys : List A) → each f (xs ++ ys) ≡ each f xs ++ each f ys
  each_joined f [] ys = refl
  each_joined f (x ∷ xs) ys = ap (λ r. f x ++ r) (each_joined f xs ys) ∙ sym (append_assoc (f x) (each f xs) (each f ys))
