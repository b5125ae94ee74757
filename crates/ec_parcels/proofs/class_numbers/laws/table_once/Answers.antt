-- No type stands twice.
use Rattle.ec_parcels.proofs.Types.{types_once}
use Rattle.ec_parcels.proofs.class_numbers.laws.table_once.Goals as goal

pub returns : goal.returns
returns start p written = types_once p written
