use Rattle.std.proofs.Common.{◌≡◌, ◌++◌, drop, map}
use Rattle.ec_types.proofs.conform.declared.names_of.Given as goal

abbrev pub invariant-loop-p : goal.invariant-loop-p
invariant-loop-p l = l.names ++ map (λ p. p.name.text) (drop l.p-index l.parameters) ≡ map (λ p. p.name.text) l.parameters
