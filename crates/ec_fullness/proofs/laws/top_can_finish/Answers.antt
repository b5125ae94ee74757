use Rattle.ec_fullness.proofs.Finishing.{top_takes}
use Rattle.ec_fullness.proofs.laws.top_can_finish.Goals as goal

pub returns : goal.returns
returns c = top_takes
