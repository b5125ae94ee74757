use Rattle.mips_waits.proofs.Follows.{dropped_has_no_links}
use Rattle.mips_waits.proofs.laws.dropped_has_no_links.Goals as goal

pub returns : goal.returns
returns start = dropped_has_no_links
