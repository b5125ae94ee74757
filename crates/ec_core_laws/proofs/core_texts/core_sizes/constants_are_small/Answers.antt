-- The values of the constants of an accepted program are small.
use Rattle.ec_core_laws.proofs.Constants.{constants_are_small}
use Rattle.ec_core_laws.proofs.core_texts.core_sizes.constants_are_small.Goals as goal

pub returns : goal.returns
returns start table program none = constants_are_small table program none
