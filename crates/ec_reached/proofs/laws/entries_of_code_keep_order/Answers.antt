use Rattle.ec_reached.proofs.CodeSteps.{code_order}
use Rattle.ec_reached.proofs.laws.entries_of_code_keep_order.Goals as goal

pub returns : goal.returns
returns start = code_order
