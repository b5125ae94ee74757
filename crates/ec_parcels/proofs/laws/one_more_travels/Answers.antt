use Rattle.ec_parcels.proofs.Keys.{one_more}
use Rattle.ec_parcels.proofs.laws.one_more_travels.Goals as goal

pub returns : goal.returns
returns c = one_more
