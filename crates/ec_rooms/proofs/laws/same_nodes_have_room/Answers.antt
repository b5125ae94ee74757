-- What is there has room.
use Rattle.ec_rooms.proofs.Nodes.{same_nodes}
use Rattle.ec_rooms.specs.Runs.{PoolAfter}
use Rattle.ec_rooms.proofs.laws.same_nodes_have_room.Goals as goal

pub returns : goal.returns
returns start p n schedule k = same_nodes (PoolAfter p n schedule k)
