use Rattle.std.proofs.Common.{take}
use Rattle.ec_packing.proofs.Standing.{AreFirst}
use Rattle.ec_packing.proofs.activations.add_on.Given as goal

-- the first of those on the object have been found
abbrev pub invariant-loop-i : goal.invariant-loop-i
invariant-loop-i l = AreFirst (take l.i l.standing.items) l.initial.found l.found
