-- The class of each object has a number, but that of nodes.
use Rattle.ec_parcels.proofs.Numbered.{number_some}
use Rattle.ec_parcels.proofs.class_numbers.laws.each_class_has_number.Goals as goal

pub returns : goal.returns
returns start d p fine w s made oid o e other written = number_some d p fine w s made oid o e other written
