-- What holds of each source.
use Rattle.ec_code.specs.declared.code.Parts.{Parts}
use Rattle.ec_emission.specs.Lowered.{IsLowered}
use Rattle.ec_meaning.specs.Programs.{Source}

-- There is a program that the source is lowered to. By `LoweringIsDetermined` of ec_lowered there is no other.
abbrev pub EachSourceIsLowered : Type 0
EachSourceIsLowered = (s : Source) → (p : Parts) × IsLowered s p
