use Rattle.std.proofs.Common.{◌≡◌}
use Rattle.ec_emission.specs.Rows.{temporaries}
use Rattle.ec_expressions.proofs.rows.temporaries.Given as goal

abbrev pub invariant-loop-k : goal.invariant-loop-k
invariant-loop-k l = l.variables ≡ temporaries l.from l.k
