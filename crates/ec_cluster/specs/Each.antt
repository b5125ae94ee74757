-- Lists of what a function has at numbers.
use Rattle.std.specs.Prelude.{ℕ, zero, suc, List, [], ◌∷◌}

-- f at so many numbers, from one on
unfoldable pub each_from : {A : Type 0} → (ℕ → A) → ℕ → ℕ → List A
each_from f from zero = []
each_from f from (suc n) = f from ∷ each_from f (suc from) n
