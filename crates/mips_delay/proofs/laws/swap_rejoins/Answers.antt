use Rattle.mips_delay.proofs.Swap.{swap_rejoins}
use Rattle.mips_delay.proofs.laws.swap_rejoins.Goals as goal

pub returns : goal.returns
returns start = swap_rejoins
