-- Each type of a program conforms to itself.
use Rattle.ec_types.proofs.Itself.{conforms_to_itself}
use Rattle.ec_types.proofs.laws.each_type_conforms_to_itself.Goals as goal

pub returns : goal.returns
returns start types known t h = conforms_to_itself types known t h
