use Rattle.std.proofs.Common.{◌+◌}
use Rattle.ec_types.specs.Pairs.{Passed}
use Rattle.ec_types.proofs.conform.pairs.strike_block.Given as goal

abbrev pub invariant-loop-s : goal.invariant-loop-s
invariant-loop-s l = Passed l.types l.initial.pairs.items 0 l.s l.from (l.from + 32) l.struck l.pairs.items
