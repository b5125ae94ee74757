-- Texts are the same where their bytes are, one by one.
use Rattle.std.proofs.Common.{◌≡◌, ℕ, List, [], ◌∷◌, Bool, true, false, ◌&&◌, if◌then◌else◌, refl}
use lib.Dec.{eqb}
use lib.Pointwise.{pointwise}
use Rattle.ec_world.specs.Same.{is_same_text}

by_first : (first p q : Bool) → p ≡ q → (first && p) ≡ (if first then q else false)
by_first true p q e = e
by_first false p q e = refl

pub same_text : (s t : List ℕ) → pointwise eqb s t ≡ is_same_text s t
same_text [] [] = refl
same_text [] (b ∷ t) = refl
same_text (a ∷ s) [] = refl
same_text (a ∷ s) (b ∷ t) = by_first (eqb a b) (pointwise eqb s t) (is_same_text s t) (same_text s t)
