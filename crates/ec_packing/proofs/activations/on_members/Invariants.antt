use Rattle.std.proofs.Common.{take}
use Rattle.ec_packing.proofs.Standing.{AreFound}
use Rattle.ec_packing.proofs.activations.on_members.Given as goal
use Rattle.ec_stores.specs.Node.{store_of}

-- those on the first members have been found
abbrev pub invariant-loop-i : goal.invariant-loop-i
invariant-loop-i l = AreFound (store_of l.node) (take l.i l.members) l.found
