-- Each run is in range.
use Rattle.ec_code.proofs.RangesWorlds.{runs_ranged}
use Rattle.ec_code.proofs.ranges.each_run_is_ranged.Goals as goal

pub returns : goal.returns
returns start p small n few entries = runs_ranged p small n few entries
