-- The core of an accepted program has few classes and operations.
use Rattle.ec_core_laws.proofs.CountedPrograms.{each_has_few}
use Rattle.ec_core_laws.proofs.laws.each_count_is_small.Goals as goal

pub returns : goal.returns
returns start table program is none = each_has_few table program is none
