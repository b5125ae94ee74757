use Rattle.mips_waits.proofs.Follows.{dropped_is_short}
use Rattle.mips_waits.proofs.laws.dropped_is_short.Goals as goal

pub returns : goal.returns
returns start = dropped_is_short
