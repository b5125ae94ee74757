-- What holds of the words of steps on MIPS I.
use Rattle.ec_machine_code.specs.Speaks.{Speaks}
use Rattle.mips_code.specs.Meaning.{mips_meaning}
use Rattle.mips_code.specs.Words.{mips_far, mips_near}

-- They do what the steps do, where no target is far.
abbrev pub NearSpeaks : Type 0
NearSpeaks = Speaks mips_meaning mips_near

-- And where targets may be far.
abbrev pub FarSpeaks : Type 0
FarSpeaks = Speaks mips_meaning mips_far
