use Rattle.ec_acts.proofs.load.first_lack.Given as goal
use Rattle.ec_acts.specs.Loading.{HaveRoom, counted}

abbrev pub invariant-loop-k : goal.invariant-loop-k
invariant-loop-k l = HaveRoom (counted l.bytes) l.specs l.k
