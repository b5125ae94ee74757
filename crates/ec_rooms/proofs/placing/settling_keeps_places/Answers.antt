-- The second step.
use Rattle.ec_rooms.proofs.Settling.{settling_keeps_places}
use Rattle.ec_rooms.proofs.placing.settling_keeps_places.Goals as goal

pub returns : goal.returns
returns start old new w p below top o same has = settling_keeps_places old new w p below top o same has
