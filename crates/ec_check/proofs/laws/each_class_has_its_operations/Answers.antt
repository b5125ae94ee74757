-- Each class of an accepted program has the operations of its type.
use Rattle.ec_check.proofs.NumberedPrograms.{classes_have_operations}
use Rattle.ec_check.proofs.laws.each_class_has_its_operations.Goals as goal

pub returns : goal.returns
returns start table program is none places = classes_have_operations table program is none places
