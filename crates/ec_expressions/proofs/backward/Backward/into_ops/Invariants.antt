use Rattle.std.proofs.Common.{◌≡◌, ◌++◌, length}
use Rattle.ec_expressions.proofs.backward.Backward.into_ops.Given as goal

-- what is taken off stands before what is left
abbrev pub invariant-loop-op : goal.invariant-loop-op
invariant-loop-op l = l.ops ++ l.rest ≡ l.initial.rest

abbrev pub decreases-loop-op : goal.decreases-loop-op
decreases-loop-op l = length l.rest
