use Rattle.std.proofs.Common.{◌≡◌, ◌++◌, drop, map}
use Rattle.ec_types.specs.Scopes.{written_in}
use Rattle.ec_judge.proofs.holders.types_written.Given as goal

abbrev pub invariant-loop-p : goal.invariant-loop-p
invariant-loop-p l =
    l.types ++ map (λ p. written_in l.scope p.of) (drop l.p-index l.parameters) ≡ map (λ p. written_in l.scope p.of) l.parameters
