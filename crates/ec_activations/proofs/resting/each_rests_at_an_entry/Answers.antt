use Rattle.ec_activations.proofs.Entries.{rests_at_an_entry}
use Rattle.ec_activations.proofs.resting.each_rests_at_an_entry.Goals as goal

pub returns : goal.returns
returns c = rests_at_an_entry
