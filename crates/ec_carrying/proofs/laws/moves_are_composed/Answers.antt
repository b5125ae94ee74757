use Rattle.ec_carrying.proofs.Composing.{moves_composed}
use Rattle.ec_carrying.proofs.laws.moves_are_composed.Goals as goal

pub returns : goal.returns
returns c = moves_composed
