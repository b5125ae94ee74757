-- A part of the core is no larger than the part of the tree that it is made of, where that is within the limits.
use Rattle.std.proofs.Common.{◌≡◌, ℕ, ◌+◌, ◌≤◌, max, sym, subst, arith}
use Rattle.ec_rules.specs.Lists.{plus}

-- Its size and its height are no more than these, where these are within the limits.
pub record Small (s h n v : ℕ) : Type 0 where
  pub size : n ≤ 4000 → s ≤ n
  pub height : v ≤ 100 → h ≤ v

pub none_small : Small 0 0 0 0
none_small = record { size = λ l. omega arith; height = λ l. omega arith }

pub leaf_small : Small 1 1 1 1
leaf_small = record { size = λ l. omega arith; height = λ l. omega arith }

-- one node more
pub more_small : (s h n v : ℕ) → Small s h n v → Small (1 + s) h (plus 1 n) v
more_small s h n v k = record {
  size = λ l. let r : s ≤ n = k.size (omega arith) in omega arith;
  height = k.height;
}

-- one node and one value more
pub behind_small : (s h n v : ℕ) → Small s h n v → Small (1 + s) (1 + h) (plus 1 n) (plus 1 v)
behind_small s h n v k = record {
  size = λ l. let r : s ≤ n = k.size (omega arith) in omega arith;
  height = λ l. let r : h ≤ v = k.height (omega arith) in omega arith;
}

-- one after another
pub both_small : (s h n v t i m w : ℕ) → Small s h n v → Small t i m w → Small (s + t) (max h i) (plus n m) (max v w)
both_small s h n v t i m w k j = record {
  size = λ l. let r : s ≤ n = k.size (omega arith) in let q : t ≤ m = j.size (omega arith) in omega arith;
  height = λ l. let r : h ≤ v = k.height (omega arith) in let q : i ≤ w = j.height (omega arith) in omega arith;
}

-- the one held while the other is worked out
pub pair_small : (s h n v t i m w : ℕ) → Small s h n v → Small t i m w → Small (s + t) (max h (1 + i)) (plus n m) (max v (plus 1 w))
pair_small s h n v t i m w k j = record {
  size = λ l. let r : s ≤ n = k.size (omega arith) in let q : t ≤ m = j.size (omega arith) in omega arith;
  height = λ l. let r : h ≤ v = k.height (omega arith) in let q : i ≤ w = j.height (omega arith) in omega arith;
}

pub same_small : {s s' h h' n v : ℕ} → s ≡ s' → h ≡ h' → Small s' h' n v → Small s h n v
same_small {s} {s'} {h} {h'} {n} {v} e f k =
    subst (λ x. Small x h n v) (sym e) (subst (λ x. Small s' x n v) (sym f) k)
