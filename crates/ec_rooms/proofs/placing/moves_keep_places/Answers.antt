-- Where a group goes.
use Rattle.ec_rooms.proofs.Moving.{moves_keep_places}
use Rattle.ec_rooms.proofs.placing.moves_keep_places.Goals as goal

pub returns : goal.returns
returns start old new w members target fixes there gathered has = moves_keep_places old new w members target fixes there gathered has
