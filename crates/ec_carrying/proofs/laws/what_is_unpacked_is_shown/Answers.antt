use Rattle.ec_carrying.proofs.Clusters.{unpacked_is_shown}
use Rattle.ec_carrying.proofs.laws.what_is_unpacked_is_shown.Goals as goal

pub returns : goal.returns
returns c = unpacked_is_shown
