-- The least true place of a list from one place on.
use Rattle.std.proofs.Common.{◌≡◌, ℕ, zero, suc, ◌+◌, ◌<◌, ◌≤◌, Bool, true, false, List, [], ◌∷◌, drop, nat_le, refl, ◌∙◌, arith}
use Rattle.std.proofs.lemmas.Grind.{common_steps}
use Rattle.ec_world.specs.Run.{first_true}

no_le : (m n : ℕ) → n < m → nat_le m n ≡ false
no_le m n h = grind (arith, common_steps)

skipped : (from i : ℕ) (b : Bool) (bs : List Bool) → i < from → first_true from i (b ∷ bs) ≡ first_true from (suc i) bs
skipped from i false bs h = refl
skipped from i true bs h = rw (no_le from i h) refl

-- the places below `from` do not matter
pub first_true-skip : (n i : ℕ) (bs : List Bool) (from : ℕ) → from ≡ i + n → first_true from i bs ≡ first_true from from (drop n bs)
first_true-skip zero i bs from e = let j : i ≡ from = omega arith in rw j refl
first_true-skip (suc n) i [] from e = refl
first_true-skip (suc n) i (b ∷ bs) from e = skipped from i b bs (omega arith) ∙ first_true-skip n (suc i) bs from (omega arith)
