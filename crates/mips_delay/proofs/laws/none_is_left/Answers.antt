use Rattle.mips_delay.proofs.Left.{none_is_left}
use Rattle.mips_delay.proofs.laws.none_is_left.Goals as goal

pub returns : goal.returns
returns start = none_is_left
