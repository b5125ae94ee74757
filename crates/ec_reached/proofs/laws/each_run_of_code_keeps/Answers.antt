use Rattle.ec_reached.proofs.CodeSteps.{code_keeps}
use Rattle.ec_reached.proofs.laws.each_run_of_code_keeps.Goals as goal

pub returns : goal.returns
returns start = code_keeps
