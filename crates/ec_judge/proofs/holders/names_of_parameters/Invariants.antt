use Rattle.std.proofs.Common.{◌≡◌, ◌++◌, drop, map}
use Rattle.ec_judge.proofs.holders.names_of_parameters.Given as goal

abbrev pub invariant-loop-p : goal.invariant-loop-p
invariant-loop-p l =
    map (λ x. x.now) l.names.items ++ map (λ p. p.name) (drop l.p-index l.parameters) ≡ map (λ p. p.name) l.parameters
