-- What is written comes first.
use Rattle.ec_parcels.proofs.Types.{written_first}
use Rattle.ec_parcels.proofs.class_numbers.laws.written_come_first.Goals as goal

pub returns : goal.returns
returns start p written = written_first p written
