use Rattle.mips_delay.proofs.Short.{filled_keeps}
use Rattle.mips_delay.proofs.laws.filled_keeps.Goals as goal

pub returns : goal.returns
returns start = filled_keeps
