-- Types of live variables in lowered code.
use Rattle.ec_asking.specs.Typed.{IsTypedOnce}
use Rattle.ec_code.specs.declared.code.Parts.{Parts}
use Rattle.ec_emission.specs.Lowered.{IsLowered}
use Rattle.ec_meaning.specs.Programs.{Source}

-- A live variable has one type on each line.
abbrev pub LoweredIsTypedOnce : Type 0
LoweredIsTypedOnce = (s : Source) (p : Parts) → IsLowered s p → IsTypedOnce p
