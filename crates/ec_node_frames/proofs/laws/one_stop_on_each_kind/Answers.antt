-- The entry stands where it is counted.
use Rattle.ec_node_frames.proofs.Stops.{stop_in_table}
use Rattle.ec_node_frames.proofs.laws.one_stop_on_each_kind.Goals as goal

pub returns : goal.returns
returns c = stop_in_table
