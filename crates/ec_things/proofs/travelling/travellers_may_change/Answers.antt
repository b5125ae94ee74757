use Rattle.ec_things.proofs.Others.{may_change}
use Rattle.ec_things.proofs.travelling.travellers_may_change.Goals as goal

pub returns : goal.returns
returns g c = may_change
