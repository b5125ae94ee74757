-- The places of a program's constants and classes among all, by their numbers, and the maps that hold the places.
use Rattle.std.specs.Prelude.{◌≡◌, ℕ, suc, ◌==◌, if◌then◌else◌, List, [], ◌∷◌, map, Option, Some, None}
use Rattle.std.specs.Ordering.{nat_cmp}
use Rattle.std.specs.BTreeMap.{BTreeMap, get}
use Rattle.ec_core.specs.declared.Class.{Class}
use Rattle.ec_core.specs.declared.Constant.{Constant}

abbrev pub constant_numbers : List Constant → List ℕ
constant_numbers cs = map (λ c. c.number) cs

abbrev pub class_numbers : List Class → List ℕ
class_numbers cs = map (λ c. c.number) cs

-- the place of the first of these numbers that is a number; they are those from n on
abbrev pub place_from : ℕ → List ℕ → ℕ → Option ℕ
place_from n [] k = None
place_from n (m ∷ ms) k = if m == k then Some n else place_from (suc n) ms k

-- The map has the place of each number that is among those from n on, and nothing else.
abbrev pub ArePlacesFrom : ℕ → BTreeMap ℕ ℕ → List ℕ → Type 0
ArePlacesFrom n places numbers = (k : ℕ) → get nat_cmp places k ≡ place_from n numbers k

abbrev pub ArePlaces : BTreeMap ℕ ℕ → List ℕ → Type 0
ArePlaces = ArePlacesFrom 0
