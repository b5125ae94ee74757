-- Runs by the words that they pass.
use Rattle.std.specs.Prelude.{◌≡◌, ℕ, suc, ◌<◌, ◌≤◌, List, [], ◌∷◌}
use Rattle.ec_base.specs.Bytes.{Bytes}
use Rattle.ec_target.specs.Code.{pc_of}
use Rattle.ec_target.specs.Runs.{Going}

-- words that rise, from one on, each of them below another
abbrev pub Rises : (from end : ℕ) → List ℕ → Type 0
Rises from end [] = from ≤ end
Rises from end (i ∷ is) = (from ≤ i) × (i < end) × Rises (suc i) end is

module _ {S : Type 0} (goes : Going S) (place : S → ℕ) where
  -- steps that do the instructions at these words, one behind the other, lead from one state and memory to another
  unfoldable pub Passes : List ℕ → S → Bytes → S → Bytes → Type 0
  Passes [] m b n c = (n ≡ m) × (c ≡ b)
  Passes (i ∷ is) m b n c = (place m ≡ pc_of i) × (u : S) × (d : Bytes) × goes m b u d × Passes is u d n c

  -- and these words rise, so that none of them is passed twice
  pub record Climbs (m : S) (b : Bytes) (from end : ℕ) (n : S) (c : Bytes) : Type 0 where
    pub path : List ℕ
    pub passes : Passes path m b n c
    pub rises : Rises from end path
