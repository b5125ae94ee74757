use Rattle.ec_acts.proofs.fresh.fresh_nodes.Given as goal
use Rattle.ec_acts.specs.Fresh.{AreAtFirst}

abbrev pub invariant-loop-k : goal.invariant-loop-k
invariant-loop-k l = AreAtFirst l.parts l.specs l.k l.nodes
