use Rattle.ec_world.proofs.Searching.{IsSearch, work_of}
use Rattle.ec_world.proofs.group.reach.Given as goal

abbrev pub invariant-loop-oid : goal.invariant-loop-oid
invariant-loop-oid l = IsSearch l.common l.x l.search

abbrev pub decreases-loop-oid : goal.decreases-loop-oid
decreases-loop-oid l = work_of l.search
