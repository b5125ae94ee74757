-- Counts of faults: a count is a number from 0 to 2^64 - 1 that never falls.
use Rattle.std.specs.Prelude.{◌≡◌, ℕ, ◌-◌, ◌^◌, ◌<◌, ◌⊎◌, List, Option, Some, None, Contains, position, slice_index}
use Rattle.std.specs.Str.{bytes_eq}

-- the count rose, or it stands at the top, where no count rises any more
abbrev pub HasRisen : ℕ → ℕ → Type 0
HasRisen old new = (old < new) ⊎ (new ≡ 2 ^ 64 - 1)

-- one count speaks for both names: they are the same, or neither is kept
abbrev pub ShareCount : List (List ℕ) → List ℕ → List ℕ → Type 0
ShareCount kept a b = (a ≡ b) ⊎ (¬ Contains kept a × ¬ Contains kept b)

-- the counts of the kept names, in their order, and the one of all other names
pub record Tally : Type 0 where
  pub names : List (List ℕ)
  pub counts : List ℕ
  pub others : ℕ

-- the first place of a name among others
abbrev pub place_of : List (List ℕ) → List ℕ → Option ℕ
place_of names name = position (λ kept. bytes_eq kept name) names

-- the count of a place among the kept names, or of no such place
abbrev pub count_at : List ℕ → ℕ → Option ℕ → ℕ
count_at counts others (Some i) = slice_index counts i
count_at counts others None = others

-- the count that speaks for a name
abbrev pub count_of : Tally → List ℕ → ℕ
count_of t name = count_at t.counts t.others (place_of t.names name)
