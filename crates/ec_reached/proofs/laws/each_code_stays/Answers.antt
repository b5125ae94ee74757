use Rattle.ec_reached.proofs.CodeSteps.{code_stays}
use Rattle.ec_reached.proofs.laws.each_code_stays.Goals as goal

pub returns : goal.returns
returns start = code_stays
