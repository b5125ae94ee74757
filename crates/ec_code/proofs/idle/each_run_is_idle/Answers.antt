-- Each world of each run is as is said.
use Rattle.ec_code.proofs.IdleWorlds.{run_idle}
use Rattle.ec_code.proofs.idle.each_run_is_idle.Goals as goal

pub returns : goal.returns
returns start d p fine n entries = run_idle d p fine n entries
