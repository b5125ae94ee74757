-- What holds of each program that a source is lowered to.
use Rattle.std.specs.Prelude.{◌≡◌}
use Rattle.ec_code.specs.declared.code.Parts.{Parts}
use Rattle.ec_emission.specs.Lowered.{IsLowered}
use Rattle.ec_meaning.specs.Programs.{Source}

-- The source determines the program.
abbrev pub LoweringIsDetermined : Type 0
LoweringIsDetermined = (s : Source) (p q : Parts) → IsLowered s p → IsLowered s q → p ≡ q
