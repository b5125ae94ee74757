use Rattle.ec_things.proofs.Turns.{lands}
use Rattle.ec_things.proofs.travelling.one_lands.Goals as goal

pub returns : goal.returns
returns g c = lands
