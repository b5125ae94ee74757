use Rattle.mips_delay.proofs.Short.{filled_is_short}
use Rattle.mips_delay.proofs.laws.filled_is_short.Goals as goal

pub returns : goal.returns
returns start = filled_is_short
