-- Each type of a program fits where it is wanted itself, since it conforms to itself.
use Rattle.ec_types.proofs.Itself.{conforms_to_itself}
use Rattle.ec_types.proofs.laws.each_type_fits_itself.Goals as goal

pub returns : goal.returns
returns start types known t h = record { given = h; wanted = h; conforms = conforms_to_itself types known t h }
