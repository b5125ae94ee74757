use Rattle.std.proofs.Common.{◌≡◌, drop}
use Rattle.ec_monitors.specs.Standing.{times_waiting}
use Rattle.ec_monitors.proofs.lists.waits_in.Given as goal

abbrev pub invariant-loop-held : goal.invariant-loop-held
invariant-loop-held l = times_waiting l.p (drop l.held-index l.holds) ≡ times_waiting l.p l.holds
