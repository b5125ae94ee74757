use Rattle.ec_legs.specs.Machines.{IsUnsaved, Saves}
use Rattle.ec_legs.proofs.machine.save.Given as goal
use Rattle.ec_stores.specs.Node.{KeepsBytes, store_of}
use Rattle.ec_world.specs.declared.key.Key.TheVariants.{Frame}

abbrev pub invariant-loop-k : goal.invariant-loop-k
invariant-loop-k g l =
    Saves g.N.NativeKind.meaning (store_of l.initial.node) (store_of l.node) l.process l.depth l.k l.machine
    × KeepsBytes l.initial.node l.node (Frame l.process l.depth) (IsUnsaved l.k)
