-- Each world between turns is such a world.
use Rattle.std.specs.Prelude.{ℕ}
use Rattle.ec_cluster.specs.Cluster.{CodeWorld}
use Rattle.ec_code.specs.Activations.{code_meaning, code_silent}
use Rattle.ec_code.specs.Fine.{Fine}
use Rattle.ec_code.specs.Typing.{Declared}
use Rattle.ec_code.specs.declared.code.Parts.{Parts}
use Rattle.ec_packing.specs.Between.{IsBetween}
use Rattle.ec_generate.specs.Limits.{FewConditions}
use Rattle.ec_acts.specs.Worlds.{world_first}
use Rattle.ec_code.specs.Sound.{SoundWorld}
use Rattle.ec_world.specs.Moves.{OperatorMove}
use Rattle.ec_world.specs.World.{Turn}

-- the first world is one
abbrev pub FirstIsBetween : Type 0
FirstIsBetween = (d : Declared) (p : Parts) → Fine d p → (n : ℕ) → IsBetween p (world_first n p)

-- a turn leads from one to another
abbrev pub TurnsStayBetween : Type 0
TurnsStayBetween =
    (d : Declared) (p : Parts) → Fine d p → FewConditions p → (w : CodeWorld) (process : ℕ) → SoundWorld d p w → IsBetween p w →
    IsBetween p (Turn code_meaning (code_silent p) w process)

-- and so does a move by the operator
abbrev pub MovesStayBetween : Type 0
MovesStayBetween = (p : Parts) (w : CodeWorld) (o k : ℕ) → IsBetween p w → IsBetween p (OperatorMove w o k)
