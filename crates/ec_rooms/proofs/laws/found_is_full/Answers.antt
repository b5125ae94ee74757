-- What is told is so.
use Rattle.ec_rooms.proofs.Full.{found_full}
use Rattle.ec_rooms.specs.Runs.{PoolAfter}
use Rattle.ec_rooms.proofs.laws.found_is_full.Goals as goal

pub returns : goal.returns
returns start p n schedule k = found_full (PoolAfter p n schedule k)
