use Rattle.ec_fullness.proofs.Roomy.{settles_with_room}
use Rattle.ec_fullness.proofs.laws.settles_with_room.Goals as goal

pub returns : goal.returns
returns c = settles_with_room
