-- What is known of a program of three-address code that an accepted program is lowered to, where its source isn't known.
use Rattle.ec_accepted.specs.Laws.{IsAccepted}
use Rattle.ec_ast.specs.declared.Program.{Program}
use Rattle.ec_code.specs.Fine.{Fine}
use Rattle.ec_code.specs.declared.code.Parts.{Parts}
use Rattle.ec_emission.specs.Lowered.{IsLowered, declared_of}
use Rattle.ec_meaning.specs.Programs.{Source}

-- The source of some program that breaks no static rule is lowered to it.
pub record IsOfAccepted (parts : Parts) : Type 0 where
  pub source : Source
  pub program : Program
  pub accepted : IsAccepted source program
  pub lowered : IsLowered source parts

-- It is well typed by what its source declares.
abbrev pub IsWellTyped : Parts → Type 0
IsWellTyped parts = (s : Source) × IsLowered s parts × Fine (declared_of s) parts
