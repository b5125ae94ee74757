-- What a load is told.
use Rattle.ec_rooms.proofs.Loads.{loads_full}
use Rattle.ec_rooms.proofs.laws.loads_are_full.Goals as goal

pub returns : goal.returns
returns start = loads_full
