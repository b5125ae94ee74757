-- Numbers in a row, and the place of the first of them that is the same as a number.
use Rattle.std.specs.Prelude.{◌≡◌, ℕ, ◌+◌, ◌==◌, if◌then◌else◌, List, [], ◌∷◌, Option, Some, None}
use Rattle.std.specs.Ordering.{nat_cmp}
use Rattle.std.specs.BTreeMap.{BTreeMap, get}

-- the place among these, which are those from n on
abbrev pub place_from : ℕ → List ℕ → ℕ → Option ℕ
place_from n [] number = None
place_from n (own ∷ numbers) number = if own == number then Some n else place_from (n + 1) numbers number

abbrev pub place_of : List ℕ → ℕ → Option ℕ
place_of numbers number = place_from 0 numbers number

-- A map has the place of each number.
abbrev pub ArePlaces : BTreeMap ℕ ℕ → List ℕ → Type 0
ArePlaces places numbers = (number : ℕ) → get nat_cmp places number ≡ place_of numbers number
