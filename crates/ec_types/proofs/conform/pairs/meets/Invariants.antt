use Rattle.std.proofs.Common.{◌≡◌, drop, length}
use Rattle.ec_types.specs.Conforms.{has_operations, operations_at}
use Rattle.ec_types.specs.Pairs.{in_table}
use Rattle.ec_types.proofs.conform.pairs.meets.Given as goal

abbrev pub invariant-loop-place : goal.invariant-loop-place
invariant-loop-place l =
    has_operations l.types (in_table (length l.types) l.pairs) (operations_at l.types l.s) (drop l.place l.wanted)
    ≡ has_operations l.types (in_table (length l.types) l.pairs) (operations_at l.types l.s) l.wanted
