use Rattle.ec_trial.proofs.Sizes.{named}
use Rattle.ec_trial.proofs.laws.each_entry_names_what_is_there.Goals as goal

pub returns : goal.returns
returns c = named
