-- Steps by their numbers.
use Rattle.std.specs.Prelude.{ℕ, zero, suc, List, [], ◌∷◌, ◌++◌}

-- the numbers of so many steps
abbrev pub steps_below : ℕ → List ℕ
steps_below zero = []
steps_below (suc n) = steps_below n ++ n ∷ []
