use Rattle.std.proofs.Common.{◌≡◌, ◌++◌, drop, map}
use Rattle.ec_generate.proofs.order.steps_of.Given as goal

abbrev pub invariant-loop-k : goal.invariant-loop-k
invariant-loop-k l = l.steps ++ map (λ s. s.step) (drop l.k l.spots) ≡ map (λ s. s.step) l.spots
