-- The core of an accepted program is formed.
use Rattle.ec_core_laws.proofs.FormedPrograms.{core_is_formed}
use Rattle.ec_core_laws.proofs.core_shapes.laws.each_core_is_formed.Goals as goal

pub returns : goal.returns
returns start table program is none = core_is_formed table program is none
