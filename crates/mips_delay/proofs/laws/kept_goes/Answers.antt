use Rattle.mips_delay.proofs.Kept.{kept_step}
use Rattle.mips_delay.proofs.laws.kept_goes.Goals as goal

pub returns : goal.returns
returns start = kept_step
