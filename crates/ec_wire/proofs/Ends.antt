-- Lists that aren't empty.
use Rattle.std.proofs.Common.{◌≡◌, ◌<◌, ◌==◌, false, List, [], ◌∷◌, length, arith}

module _ {A : Type 0} where
  pub not_empty : (xs : List A) → (length xs == 0) ≡ false → 0 < length xs
  not_empty [] e = absurd cc
  not_empty (x ∷ xs) e = omega arith
