use Rattle.ec_gathering.proofs.Moved.{moves_are_full}
use Rattle.ec_gathering.proofs.gathering_room.moves_are_full_so.Goals as goal

pub returns : goal.returns
returns c = moves_are_full
