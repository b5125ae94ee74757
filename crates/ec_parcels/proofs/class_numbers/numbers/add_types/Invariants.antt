use Rattle.std.proofs.Common.{◌≡◌, drop}
use Rattle.ec_parcels.specs.Vectors.{with_types}
use Rattle.ec_parcels.proofs.class_numbers.numbers.add_types.Given as goal

abbrev pub invariant-loop-of : goal.invariant-loop-of
invariant-loop-of l = with_types l.types (drop l.of-index l.list) ≡ with_types l.initial.types l.list
