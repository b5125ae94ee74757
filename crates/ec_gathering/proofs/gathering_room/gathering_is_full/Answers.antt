use Rattle.ec_gathering.proofs.Gathered.{gathering_full}
use Rattle.ec_gathering.proofs.gathering_room.gathering_is_full.Goals as goal

pub returns : goal.returns
returns c = gathering_full
