use Rattle.mips_delay.proofs.Filling.{filled_step}
use Rattle.mips_delay.proofs.laws.filled_goes.Goals as goal

pub returns : goal.returns
returns start = filled_step
