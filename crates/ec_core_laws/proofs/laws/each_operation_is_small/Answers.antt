-- The operations of an accepted program are within the limits of the static rules.
use Rattle.ec_core_laws.proofs.SmallOperations.{each_is_small}
use Rattle.ec_core_laws.proofs.laws.each_operation_is_small.Goals as goal

pub returns : goal.returns
returns start table program is none = each_is_small table program is none
