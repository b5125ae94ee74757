use Rattle.std.proofs.Common.{◌≡◌, ◌++◌, drop, map}
use Rattle.ec_judge.proofs.expressions.values_of.Given as goal

abbrev pub invariant-loop-a : goal.invariant-loop-a
invariant-loop-a l =
    l.found.items ++ map (λ a. a.value) (drop l.a-index l.added) ≡ map (λ a. a.value) l.added
