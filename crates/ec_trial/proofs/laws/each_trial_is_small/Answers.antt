use Rattle.ec_trial.proofs.Sizes.{small}
use Rattle.ec_trial.proofs.laws.each_trial_is_small.Goals as goal

pub returns : goal.returns
returns c = small
