-- The program that a source is lowered to is well typed.
use Rattle.ec_accepted.proofs.Whole.{fine}
use Rattle.ec_accepted.proofs.fine_programs.lowered_is_fine.Goals as goal

pub returns : goal.returns
returns start s p sound lowered = fine s p sound lowered
