use Rattle.ec_things.proofs.Others.{stand_nowhere}
use Rattle.ec_things.proofs.travelling.travellers_are_nowhere.Goals as goal

pub returns : goal.returns
returns g c = stand_nowhere
