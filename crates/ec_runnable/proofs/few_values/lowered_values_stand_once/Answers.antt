use Rattle.ec_runnable.proofs.Whole.{stand_once}
use Rattle.ec_runnable.proofs.few_values.lowered_values_stand_once.Goals as goal

pub returns : goal.returns
returns c = stand_once
