use Rattle.ec_reached.proofs.Order.{stack_is_calls}
use Rattle.ec_reached.proofs.laws.each_stack_is_calls.Goals as goal

pub returns : goal.returns
returns g c = stack_is_calls g.A.Activation.meaning
