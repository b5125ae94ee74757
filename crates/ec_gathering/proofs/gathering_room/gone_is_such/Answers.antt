use Rattle.ec_gathering.proofs.Gathered.{gone_is_such}
use Rattle.ec_gathering.proofs.gathering_room.gone_is_such.Goals as goal

pub returns : goal.returns
returns c = gone_is_such
