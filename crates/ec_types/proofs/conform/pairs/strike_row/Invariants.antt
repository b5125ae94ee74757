use Rattle.std.proofs.Common.{◌+◌}
use Rattle.ec_types.specs.Pairs.{Passed}
use Rattle.ec_types.proofs.conform.pairs.strike_row.Given as goal

abbrev pub invariant-loop-t : goal.invariant-loop-t
invariant-loop-t l = Passed l.types l.initial.pairs.items l.s (l.s + 1) l.from l.t l.struck l.pairs.items
