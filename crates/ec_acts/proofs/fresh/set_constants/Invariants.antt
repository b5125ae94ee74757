use Rattle.ec_acts.proofs.fresh.set_constants.Given as goal
use Rattle.ec_acts.specs.Fresh.{Defaulted}
use Rattle.ec_stores.specs.Node.{store_of}

abbrev pub invariant-loop-i : goal.invariant-loop-i
invariant-loop-i l = Defaulted l.types l.i (store_of l.fn.node) (store_of l.node)
