-- What a world sees of itself is in range.
use Rattle.ec_code.proofs.RangesObjects.{sight_ranged}
use Rattle.ec_code.proofs.ranges.worlds_see_ranged.Goals as goal

pub returns : goal.returns
returns start c r = sight_ranged c r
