-- The program that divides is well typed.
use Rattle.ec_code.proofs.Dividing.{dividing_fine}
use Rattle.ec_code.proofs.sound.dividing_is_fine.Goals as goal

pub returns : goal.returns
returns start = dividing_fine
