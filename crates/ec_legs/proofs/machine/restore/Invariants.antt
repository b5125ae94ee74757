use Rattle.ec_legs.specs.Machines.{Restores}
use Rattle.ec_legs.proofs.machine.restore.Given as goal
use Rattle.ec_stores.specs.Node.{store_of}

abbrev pub invariant-loop-k : goal.invariant-loop-k
invariant-loop-k g l = Restores g.N.NativeKind.meaning (store_of l.node) l.process l.depth l.k l.initial.machine l.machine
