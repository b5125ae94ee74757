use Rattle.mips_waits.proofs.Going.{kept_step}
use Rattle.mips_waits.proofs.laws.kept_goes.Goals as goal

pub returns : goal.returns
returns start = kept_step
