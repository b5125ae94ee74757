use Rattle.ec_gathering.proofs.Gathered.{moves_are_such}
use Rattle.ec_gathering.proofs.gathering_room.operator_moves_are_such.Goals as goal

pub returns : goal.returns
returns c = moves_are_such
