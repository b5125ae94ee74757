-- How large the values of a program's constants are, which its own operation works out in their order.
use Rattle.std.specs.Prelude.{ℕ, ◌+◌, ◌≤◌, max, List, [], ◌∷◌, length}
use Rattle.ec_core.specs.declared.Constant.{Constant}
use Rattle.ec_core.specs.declared.Core.{Core}
use Rattle.ec_core_laws.specs.Measures.{height_of, size_of}
use Rattle.ec_core_laws.specs.Captures.{captures_of}

abbrev pub size_of_constants : List Constant → ℕ
size_of_constants [] = 0
size_of_constants (c ∷ cs) = size_of c.value + size_of_constants cs

abbrev pub height_of_constants : List Constant → ℕ
height_of_constants [] = 0
height_of_constants (c ∷ cs) = max (height_of c.value) (height_of_constants cs)

abbrev pub captures_of_constants : List Constant → ℕ
captures_of_constants [] = 0
captures_of_constants (c ∷ cs) = captures_of c.value + captures_of_constants cs

-- They have no more than 4,000 nodes, no more than 100 values are held at one time, and there are no more than 4,000 of them.
pub record HasSmallConstants (core : Core) : Type 0 where
  pub size : size_of_constants core.constants ≤ 4000
  pub values : height_of_constants core.constants ≤ 100
  pub count : length core.constants ≤ 4000
