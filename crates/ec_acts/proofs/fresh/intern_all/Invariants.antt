use Rattle.ec_acts.proofs.fresh.intern_all.Given as goal
use Rattle.ec_acts.specs.Fresh.{Interned}
use Rattle.ec_stores.specs.Node.{store_of}

abbrev pub invariant-loop-i : goal.invariant-loop-i
invariant-loop-i l = Interned l.texts l.i (store_of l.fn.node) (store_of l.node)
