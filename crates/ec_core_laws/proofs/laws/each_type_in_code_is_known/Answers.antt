-- No type in the code of an accepted program is unknown, since its core is well typed.
use Rattle.ec_check.proofs.WellPrograms.{program_well}
use Rattle.ec_check.proofs.WellTrees.{well_part, well_body}
use Rattle.ec_check.specs.Program.{core_of}
use Rattle.ec_core_laws.proofs.Known.{core_knows}
use Rattle.ec_core_laws.proofs.laws.each_type_in_code_is_known.Goals as goal

pub returns : goal.returns
returns start table program is none = core_knows table (core_of table program) (program_well well_part well_body table program is none)
