use Rattle.ec_parcels.proofs.Rising.{keys_once}
use Rattle.ec_parcels.proofs.laws.keys_are_once.Goals as goal

pub returns : goal.returns
returns c = keys_once
