-- What is loaded first.
use Rattle.ec_rooms.proofs.First.{first_are_placed}
use Rattle.ec_rooms.proofs.placing.first_are_placed.Goals as goal

pub returns : goal.returns
returns start p images specs s loaded = first_are_placed p images specs s loaded
