use Rattle.ec_reached.proofs.SourceSteps.{source_keeps}
use Rattle.ec_reached.proofs.laws.each_run_of_a_source_keeps.Goals as goal

pub returns : goal.returns
returns start = source_keeps
