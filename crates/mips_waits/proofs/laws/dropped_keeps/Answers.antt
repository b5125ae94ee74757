use Rattle.mips_waits.proofs.Follows.{dropped_keeps}
use Rattle.mips_waits.proofs.laws.dropped_keeps.Goals as goal

pub returns : goal.returns
returns start = dropped_keeps
