use Rattle.ec_cluster.proofs.constants.define.Given as goal
use Rattle.ec_cluster.specs.Defining.{Defining}

abbrev pub invariant-loop-k : goal.invariant-loop-k
invariant-loop-k l = Defining l.fn.cluster l.cluster l.index l.value l.k
