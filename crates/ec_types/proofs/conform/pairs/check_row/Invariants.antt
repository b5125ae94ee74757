use Rattle.ec_types.specs.Pairs.{Follows}
use Rattle.ec_types.proofs.conform.pairs.check_row.Given as goal

abbrev pub invariant-loop-b : goal.invariant-loop-b
invariant-loop-b l = Follows l.types l.initial.pairs.items l.initial.struck.items l.pairs.items l.struck.items
