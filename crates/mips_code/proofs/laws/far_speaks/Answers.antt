use Rattle.mips_code.proofs.Speaking.{far_speaks}
use Rattle.mips_code.proofs.laws.far_speaks.Goals as goal

pub returns : goal.returns
returns start = far_speaks
