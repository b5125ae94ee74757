-- What holds of each program that a source is lowered to, of its classes and its beginning.
use Rattle.ec_code.specs.declared.code.Parts.{Parts}
use Rattle.ec_accepted.specs.Classes.{HasFineClasses}
use Rattle.ec_accepted.specs.FineClassesSound.{HasSoundClasses}
use Rattle.ec_emission.specs.Lowered.{IsLowered}
use Rattle.ec_meaning.specs.Programs.{Source}

-- Its classes are well typed.
abbrev pub ClassesAreFine : Type 0
ClassesAreFine = (s : Source) (p : Parts) → HasSoundClasses s → IsLowered s p → HasFineClasses s p
