use Rattle.ec_parcels.proofs.Keys.{one_fewer}
use Rattle.ec_parcels.proofs.laws.one_fewer_travels.Goals as goal

pub returns : goal.returns
returns c = one_fewer
