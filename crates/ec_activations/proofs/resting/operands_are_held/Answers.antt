use Rattle.ec_activations.proofs.Operands.{held_for_it}
use Rattle.ec_activations.proofs.resting.operands_are_held.Goals as goal

pub returns : goal.returns
returns c = held_for_it
