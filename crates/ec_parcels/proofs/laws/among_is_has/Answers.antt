use Rattle.ec_parcels.proofs.Keys.{among_is_has}
use Rattle.ec_parcels.proofs.laws.among_is_has.Goals as goal

pub returns : goal.returns
returns c = among_is_has
