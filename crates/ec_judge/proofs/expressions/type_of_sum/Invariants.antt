use Rattle.std.proofs.Common.{◌≡◌, drop}
use Rattle.ec_judge.specs.Walks.{type_of_sum}
use Rattle.ec_judge.proofs.expressions.type_of_sum.Given as goal

abbrev pub invariant-loop-a : goal.invariant-loop-a
invariant-loop-a l = type_of_sum l.of (drop l.a-index l.added) ≡ type_of_sum l.initial.of l.added
