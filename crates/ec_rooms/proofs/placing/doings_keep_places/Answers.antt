-- The first step.
use Rattle.ec_rooms.proofs.Doing.{doings_keep_places}
use Rattle.ec_rooms.proofs.placing.doings_keep_places.Goals as goal

pub returns : goal.returns
returns start d old new w below top who doing runs asks places has = doings_keep_places d old new w below top who doing runs asks places has
