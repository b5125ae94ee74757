use Rattle.ec_gathering.proofs.Gathered.{gathering_fits}
use Rattle.ec_gathering.proofs.gathering_room.gathering_fits.Goals as goal

pub returns : goal.returns
returns c = gathering_fits
