use Rattle.ec_things.proofs.Others.{same_travel}
use Rattle.ec_things.proofs.travelling.same_travellers.Goals as goal

pub returns : goal.returns
returns g c = same_travel
