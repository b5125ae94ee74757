-- Each source is lowered.
use Rattle.ec_emission.proofs.Programs.{lowered}
use Rattle.ec_emission.proofs.each_lowered.each_source_is_lowered.Goals as goal

pub returns : goal.returns
returns start s = lowered s
