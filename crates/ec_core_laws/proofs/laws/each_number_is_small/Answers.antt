-- The numbers in the core are small, where those in the tree are.
use Rattle.ec_core_laws.proofs.FittingPrograms.{each_number_is_small}
use Rattle.ec_core_laws.proofs.laws.each_number_is_small.Goals as goal

pub returns : goal.returns
returns start table program small = each_number_is_small table program small
