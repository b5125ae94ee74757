use Rattle.std.proofs.Common.{◌≡◌, ◌++◌, drop, map}
use Rattle.ec_types.proofs.conform.declared.types_of_parameters.Given as goal

abbrev pub invariant-loop-p : goal.invariant-loop-p
invariant-loop-p l = l.types ++ map (λ p. p.of) (drop l.p-index l.parameters) ≡ map (λ p. p.of) l.parameters
