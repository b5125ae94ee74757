-- A place for each object.
use Rattle.ec_rooms.proofs.Worlds.{each_placed}
use Rattle.ec_rooms.proofs.placing.each_is_placed.Goals as goal

pub returns : goal.returns
returns start = each_placed
