use Rattle.std.proofs.Common.{◌≡◌, drop}
use Rattle.ec_monitors.specs.Standing.{times_entering}
use Rattle.ec_monitors.proofs.lists.waits_as.Given as goal

abbrev pub invariant-loop-q : goal.invariant-loop-q
invariant-loop-q l = times_entering l.p (drop l.q-index l.entry) ≡ times_entering l.p l.entry
