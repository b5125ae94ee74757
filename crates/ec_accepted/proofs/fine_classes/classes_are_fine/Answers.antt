-- Each class of a source is well typed in the program that the source is lowered to.
use Rattle.ec_accepted.proofs.Classes.{fine_classes}
use Rattle.ec_accepted.proofs.fine_classes.classes_are_fine.Goals as goal

pub returns : goal.returns
returns start s p sound lowered = fine_classes s p sound lowered
