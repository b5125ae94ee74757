use Rattle.ec_carrying.proofs.Composing.{room_behind}
use Rattle.ec_carrying.proofs.laws.what_sets_off_has_room.Goals as goal

pub returns : goal.returns
returns c = room_behind
