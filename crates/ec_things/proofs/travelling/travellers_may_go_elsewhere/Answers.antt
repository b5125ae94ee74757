use Rattle.ec_things.proofs.Others.{go_elsewhere}
use Rattle.ec_things.proofs.travelling.travellers_may_go_elsewhere.Goals as goal

pub returns : goal.returns
returns g c = go_elsewhere
