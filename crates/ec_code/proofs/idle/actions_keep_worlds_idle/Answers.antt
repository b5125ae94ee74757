-- Actions keep what is said.
use Rattle.ec_code.proofs.IdleWorlds.{action_idle}
use Rattle.ec_code.proofs.idle.actions_keep_worlds_idle.Goals as goal

pub returns : goal.returns
returns start d p fine w n s h = action_idle d p fine w n s h
