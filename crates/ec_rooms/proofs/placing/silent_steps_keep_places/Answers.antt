-- Code between stops.
use Rattle.ec_rooms.proofs.Stepping.{silent_steps_keep_places}
use Rattle.ec_rooms.proofs.placing.silent_steps_keep_places.Goals as goal

pub returns : goal.returns
returns start p old new w i same has = silent_steps_keep_places p old new w i same has
