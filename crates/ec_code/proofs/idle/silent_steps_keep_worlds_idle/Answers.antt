-- Silent steps keep what is said.
use Rattle.ec_code.proofs.IdleWorlds.{go_on_idle}
use Rattle.ec_code.proofs.idle.silent_steps_keep_worlds_idle.Goals as goal

pub returns : goal.returns
returns start p w n h = go_on_idle p w n h
