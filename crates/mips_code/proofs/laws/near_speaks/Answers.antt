use Rattle.mips_code.proofs.Speaking.{near_speaks}
use Rattle.mips_code.proofs.laws.near_speaks.Goals as goal

pub returns : goal.returns
returns start = near_speaks
