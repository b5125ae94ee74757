-- Entries keep worlds in range.
use Rattle.ec_code.proofs.RangesWorlds.{entry_ranged}
use Rattle.ec_code.proofs.ranges.entries_keep_worlds_ranged.Goals as goal

pub returns : goal.returns
returns start p small w e r = entry_ranged p small w e r
