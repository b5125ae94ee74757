use Rattle.ec_packing.specs.Narrow.{EachIs, FirstAre, NarrowHold}
use Rattle.ec_packing.proofs.widths.look_at_queues.Given as goal

abbrev pub invariant-loop-queue : goal.invariant-loop-queue
invariant-loop-queue l = FirstAre (EachIs NarrowHold) l.queues l.queue-index
