use Rattle.std.proofs.Common.{◌≡◌, ◌+◌, ◌++◌, drop}
use Rattle.ec_world.specs.Group.{marked_from}
use Rattle.ec_world.proofs.group.marked.Given as goal

-- the marks from place i on are still to be looked at
abbrev pub invariant-loop-i : goal.invariant-loop-i
invariant-loop-i l = l.oids.items ++ marked_from (l.i + 1) (drop l.i l.marks) ≡ marked_from 1 l.marks
