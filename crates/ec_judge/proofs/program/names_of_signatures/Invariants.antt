use Rattle.std.proofs.Common.{◌≡◌, ◌++◌, drop, map}
use Rattle.ec_judge.proofs.program.names_of_signatures.Given as goal

abbrev pub invariant-loop-s : goal.invariant-loop-s
invariant-loop-s l =
    map (λ x. x.now) l.names.items ++ map (λ s. s.name) (drop l.s-index l.operations) ≡ map (λ s. s.name) l.operations
