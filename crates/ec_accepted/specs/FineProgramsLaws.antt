-- The program that a source is lowered to is well typed.
use Rattle.ec_code.specs.declared.code.Parts.{Parts}
use Rattle.ec_code.specs.Fine.{Fine}
use Rattle.ec_accepted.specs.FineProgramsSound.{IsSound}
use Rattle.ec_emission.specs.Lowered.{IsLowered, declared_of}
use Rattle.ec_meaning.specs.Programs.{Source}

abbrev pub LoweredIsFine : Type 0
LoweredIsFine = (s : Source) (p : Parts) → IsSound s → IsLowered s p → Fine (declared_of s) p
