use Rattle.ec_trial.proofs.Sizes.{short}
use Rattle.ec_trial.proofs.laws.each_text_is_short.Goals as goal

pub returns : goal.returns
returns c = short
