use Rattle.ec_fullness.proofs.Roomy.{does_with_room}
use Rattle.ec_fullness.proofs.laws.does_with_room.Goals as goal

pub returns : goal.returns
returns c = does_with_room
