use Rattle.std.proofs.Common.{◌≡◌, drop}
use Rattle.ec_parcels.specs.Vectors.{with_operations}
use Rattle.ec_parcels.proofs.class_numbers.numbers.add_operations.Given as goal

abbrev pub invariant-loop-operation : goal.invariant-loop-operation
invariant-loop-operation l = with_operations l.types (drop l.operation-index l.operations) ≡ with_operations l.initial.types l.operations
