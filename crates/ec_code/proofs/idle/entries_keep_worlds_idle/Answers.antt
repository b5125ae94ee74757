-- Entries keep what is said.
use Rattle.ec_code.proofs.IdleWorlds.{entry_idle}
use Rattle.ec_code.proofs.idle.entries_keep_worlds_idle.Goals as goal

pub returns : goal.returns
returns start d p fine w e s h = entry_idle d p fine w e s h
