-- The objects of an accepted program are made right.
use Rattle.ec_check.proofs.NumberedPrograms.{classes_rise}
use Rattle.ec_core_laws.proofs.MakingPrograms.{program_makes}
use Rattle.ec_core_laws.proofs.core_shapes.core_makings.each_core_is_made_right.Goals as goal

pub returns : goal.returns
returns start table program is places none = program_makes table program (classes_rise table program is places)
