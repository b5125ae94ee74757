-- No silent step lacks a case.
use Rattle.ec_code.proofs.Facts.{silent_steps_reach}
use Rattle.ec_code.proofs.sound.no_silent_step_lacks_a_case.Goals as goal

pub returns : goal.returns
returns start d p fine w n top s e done = silent_steps_reach d p fine w s n top e done
