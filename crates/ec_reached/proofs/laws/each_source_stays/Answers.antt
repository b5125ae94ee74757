use Rattle.ec_reached.proofs.SourceSteps.{source_stays}
use Rattle.ec_reached.proofs.laws.each_source_stays.Goals as goal

pub returns : goal.returns
returns start = source_stays
