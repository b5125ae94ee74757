use Rattle.mips_waits.proofs.Going.{gone_step}
use Rattle.mips_waits.proofs.laws.gone_goes.Goals as goal

pub returns : goal.returns
returns start = gone_step
