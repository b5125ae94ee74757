-- The core of an accepted program is well typed.
use Rattle.ec_check.proofs.WellPrograms.{program_well}
use Rattle.ec_check.proofs.WellTrees.{well_part, well_body}
use Rattle.ec_check.proofs.laws.each_core_is_well_typed.Goals as goal

pub returns : goal.returns
returns start table program is none = program_well well_part well_body table program is none
