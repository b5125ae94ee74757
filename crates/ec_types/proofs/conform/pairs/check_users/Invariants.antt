use Rattle.ec_types.specs.Pairs.{Follows}
use Rattle.ec_types.proofs.conform.pairs.check_users.Given as goal

abbrev pub invariant-loop-a : goal.invariant-loop-a
invariant-loop-a l = Follows l.types l.initial.pairs.items l.initial.struck.items l.pairs.items l.struck.items
