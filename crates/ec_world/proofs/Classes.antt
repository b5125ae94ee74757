-- What a class has, by its places.
use Rattle.std.proofs.Common.{◌≡◌, ℕ, zero, suc, Bool, false, List, [], ◌∷◌, Some, None, refl}
use Rattle.std.specs.Prelude.{slice_get}
use Rattle.ec_world.specs.Objects.{true_at}

pub true_there : (bs : List Bool) (n : ℕ) (b : Bool) → slice_get bs n ≡ Some b → b ≡ true_at bs n
true_there [] n b e = cc
true_there (c ∷ bs) zero b e = cc
true_there (c ∷ bs) (suc n) b e = true_there bs n b e

pub true_past : (bs : List Bool) (n : ℕ) → slice_get bs n ≡ None → false ≡ true_at bs n
true_past [] n e = refl
true_past (c ∷ bs) zero e = cc
true_past (c ∷ bs) (suc n) e = true_past bs n e
