use Rattle.std.proofs.Common.{◌≡◌, length}
use Rattle.ec_world.specs.Run.{expanded}
use Rattle.ec_report.proofs.course.without_empty.Given as goal

-- no entry is left out so far
abbrev pub invariant-empty : goal.invariant-empty
invariant-empty l = expanded l.rest ≡ expanded l.lines

abbrev pub decreases-empty : goal.decreases-empty
decreases-empty l = length l.rest
