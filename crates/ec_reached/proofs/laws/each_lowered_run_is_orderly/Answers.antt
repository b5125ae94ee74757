use Rattle.ec_reached.proofs.LoweredFits.{lowered_orderly}
use Rattle.ec_reached.proofs.laws.each_lowered_run_is_orderly.Goals as goal

pub returns : goal.returns
returns start = lowered_orderly
