use Rattle.std.proofs.Common.{◌≡◌, drop, []}
use Rattle.ec_types.specs.Types as spec
use Rattle.ec_types.proofs.conform.named_type.type_with.Given as goal

abbrev pub invariant-loop-written : goal.invariant-loop-written
invariant-loop-written l =
    spec.operations_from l.names l.operations (drop l.written-index l.declared.operations)
    ≡ spec.operations_from l.names [] l.declared.operations
