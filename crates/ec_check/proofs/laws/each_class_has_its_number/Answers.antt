-- The numbers of the classes of a program rise.
use Rattle.ec_check.proofs.NumberedPrograms.{classes_rise}
use Rattle.ec_check.proofs.laws.each_class_has_its_number.Goals as goal

pub returns : goal.returns
returns start table program is places = classes_rise table program is places
