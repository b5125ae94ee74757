-- Actions keep worlds in range.
use Rattle.ec_code.proofs.RangesWorlds.{action_ranged}
use Rattle.ec_code.proofs.ranges.actions_keep_worlds_ranged.Goals as goal

pub returns : goal.returns
returns start w n r = action_ranged w n r
