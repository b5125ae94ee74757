-- Lists of parts: what each gives, in order; sums; the greatest. A count stands still at 2^64 - 1, which no text reaches.
use Rattle.std.specs.Prelude.{ℕ, ◌+◌, ◌-◌, ◌^◌, max, min, List, [], ◌∷◌, ◌++◌, Option, Some, None}

-- what each gives, one after another
abbrev pub each : {A B : Type 0} → (A → List B) → List A → List B
each f [] = []
each f (a ∷ more) = f a ++ each f more

abbrev pub each_of : {A B : Type 0} → (A → List B) → Option A → List B
each_of f None = []
each_of f (Some a) = f a

abbrev pub plus : ℕ → ℕ → ℕ
plus a b = min (a + b) (2 ^ 64 - 1)

abbrev pub total : {A : Type 0} → (A → ℕ) → List A → ℕ
total f [] = 0
total f (a ∷ more) = plus (f a) (total f more)

-- 0 where there is none
abbrev pub greatest : {A : Type 0} → (A → ℕ) → List A → ℕ
greatest f [] = 0
greatest f (a ∷ more) = max (f a) (greatest f more)
