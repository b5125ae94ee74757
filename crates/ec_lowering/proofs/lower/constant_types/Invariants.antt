use Rattle.std.proofs.Common.{◌≡◌, map, take}
use Rattle.ec_lowering.proofs.lower.constant_types.Given as goal

abbrev pub invariant-loop-constant : goal.invariant-loop-constant
invariant-loop-constant l = l.types ≡ map (λ c. c.of) (take l.constant-index l.constants)
