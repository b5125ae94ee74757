use Rattle.mips_waits.proofs.Follows.{dropped_follows}
use Rattle.mips_waits.proofs.laws.dropped_follows.Goals as goal

pub returns : goal.returns
returns start = dropped_follows
