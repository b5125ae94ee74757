use Rattle.std.proofs.Common.{◌≡◌, drop}
use Rattle.ec_monitors.specs.Room.{queues}
use Rattle.ec_monitors.specs.Standing.{times_in_queues}
use Rattle.ec_monitors.proofs.lists.waits_in_any.Given as goal

abbrev pub invariant-loop-q : goal.invariant-loop-q
invariant-loop-q l = times_in_queues l.p (queues (drop l.q-index l.queues.items)) ≡ times_in_queues l.p (queues l.queues.items)
