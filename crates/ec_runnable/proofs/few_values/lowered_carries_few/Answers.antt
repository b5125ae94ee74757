use Rattle.ec_runnable.proofs.Whole.{carries_few}
use Rattle.ec_runnable.proofs.few_values.lowered_carries_few.Goals as goal

pub returns : goal.returns
returns c = carries_few
