use Rattle.std.proofs.Common.{◌≡◌, take}
use Rattle.ec_monitors.specs.Room.{queues}
use Rattle.ec_monitors.proofs.lists.seqs_of.Given as goal

abbrev pub invariant-loop-q : goal.invariant-loop-q
invariant-loop-q l = l.made ≡ queues (take l.q-index l.queues.items)
