-- What came had room.
use Rattle.ec_rooms.proofs.Coming.{steps_had}
use Rattle.ec_rooms.specs.Runs.{PoolAfter}
use Rattle.ec_rooms.proofs.laws.steps_had_room.Goals as goal

pub returns : goal.returns
returns start p n schedule k = steps_had (PoolAfter p n schedule k)
