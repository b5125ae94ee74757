-- Stacks that have a top.
use Rattle.std.specs.Prelude.{List, [], ◌∷◌}

-- the stack has a top
abbrev pub IsFilled : {A : Type 0} → List A → Type 0
IsFilled [] = ⊥
IsFilled (x ∷ xs) = Unit {0}

-- what is below the top
unfoldable pub rest : {A : Type 0} → List A → List A
rest [] = []
rest (x ∷ xs) = xs

-- the top, or this one where there is none
unfoldable pub top_or : {A : Type 0} → A → List A → A
top_or other [] = other
top_or other (x ∷ xs) = x
