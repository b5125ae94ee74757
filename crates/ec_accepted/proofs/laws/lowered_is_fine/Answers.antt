-- The code of an accepted program is well typed.
use Rattle.ec_accepted.proofs.Accepted.{is_fine}
use Rattle.ec_accepted.proofs.laws.lowered_is_fine.Goals as goal

pub returns : goal.returns
returns start s program p a lowered = is_fine s program a p lowered
