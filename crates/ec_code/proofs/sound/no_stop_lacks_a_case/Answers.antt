-- No stop lacks a case.
use Rattle.ec_code.proofs.Facts.{never_lacks}
use Rattle.ec_code.proofs.sound.no_stop_lacks_a_case.Goals as goal

pub returns : goal.returns
returns start d p fine w n top s e pending = never_lacks d p fine w s n top e pending
