use Rattle.ec_things.proofs.Others.{none_travel}
use Rattle.ec_things.proofs.travelling.nothing_travels.Goals as goal

pub returns : goal.returns
returns g c = none_travel
