-- What holds of the words of steps on RISC-V.
use Rattle.ec_machine_code.specs.Speaks.{Speaks}
use Rattle.rv_code.specs.Meaning.{rv_meaning}
use Rattle.rv_code.specs.Words.{rv_far, rv_middle, rv_near}

-- They do what the steps do, where questions lead near,
abbrev pub NearSpeaks : Type 0
NearSpeaks = Speaks rv_meaning rv_near

-- where they lead as far as a jump reaches,
abbrev pub MiddleSpeaks : Type 0
MiddleSpeaks = Speaks rv_meaning rv_middle

-- and where they and jumps lead anywhere.
abbrev pub FarSpeaks : Type 0
FarSpeaks = Speaks rv_meaning rv_far
