use Rattle.ec_activations.proofs.Operands.{waits_for}
use Rattle.ec_activations.proofs.resting.waits_for_the_result.Goals as goal

pub returns : goal.returns
returns c = waits_for
