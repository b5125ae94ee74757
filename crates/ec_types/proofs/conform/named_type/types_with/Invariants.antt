use Rattle.std.proofs.Common.{◌≡◌, ◌++◌, drop, map}
use Rattle.ec_types.specs.Types as spec
use Rattle.ec_types.proofs.conform.named_type.types_with.Given as goal

abbrev pub invariant-loop-d : goal.invariant-loop-d
invariant-loop-d l =
    l.types.items ++ map (spec.type_with l.names) (drop l.d-index l.declared) ≡ map (spec.type_with l.names) l.declared
