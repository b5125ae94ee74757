use Rattle.std.proofs.Common.{◌*◌}
use Rattle.ec_types.specs.Pairs.{rows, Passed}
use Rattle.ec_types.proofs.conform.pairs.strike.Given as goal

abbrev pub invariant-loop-block : goal.invariant-loop-block
invariant-loop-block l = Passed l.types l.initial.pairs.items 0 (rows l.types) 0 (l.block * 32) l.struck l.pairs.items
