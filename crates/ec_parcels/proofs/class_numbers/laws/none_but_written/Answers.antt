-- Nothing else is in the table.
use Rattle.ec_parcels.proofs.Types.{none_but}
use Rattle.ec_parcels.proofs.class_numbers.laws.none_but_written.Goals as goal

pub returns : goal.returns
returns start p written all = none_but p written all
