use Rattle.ec_reached.proofs.CodeSteps.{code_orderly}
use Rattle.ec_reached.proofs.laws.each_run_of_code_is_orderly.Goals as goal

pub returns : goal.returns
returns start = code_orderly
