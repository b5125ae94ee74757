use Rattle.std.proofs.Common.{◌≡◌, ◌++◌, drop, map}
use Rattle.ec_types.specs.Types as spec
use Rattle.ec_types.proofs.conform.named_type.types_of.Given as goal

abbrev pub invariant-loop-of : goal.invariant-loop-of
invariant-loop-of l = l.types ++ map (spec.type_of l.names) (drop l.of-index l.written) ≡ map (spec.type_of l.names) l.written
