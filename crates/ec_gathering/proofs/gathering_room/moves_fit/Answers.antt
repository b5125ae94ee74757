use Rattle.ec_gathering.proofs.Moved.{moves_fit}
use Rattle.ec_gathering.proofs.gathering_room.moves_fit.Goals as goal

pub returns : goal.returns
returns c = moves_fit
