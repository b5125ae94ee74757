-- The stop stands in the table of its operation.
use Rattle.ec_parcels.proofs.Stops.{part_has_its_stop}
use Rattle.ec_parcels.proofs.mover.laws.each_part_has_its_stop.Goals as goal

pub returns : goal.returns
returns c = part_has_its_stop
