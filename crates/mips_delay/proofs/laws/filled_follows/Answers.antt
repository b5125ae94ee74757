use Rattle.mips_delay.proofs.Follows.{filled_follows}
use Rattle.mips_delay.proofs.laws.filled_follows.Goals as goal

pub returns : goal.returns
returns start = filled_follows
