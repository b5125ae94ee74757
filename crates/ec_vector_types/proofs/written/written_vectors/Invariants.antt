use Rattle.std.proofs.Common.{◌≡◌, ◌++◌, length}
use Rattle.ec_vector_types.specs.Written.{written_vectors}
use Rattle.ec_vector_types.proofs.written.written_vectors.Given as goal

abbrev pub invariant-loop-left : goal.invariant-loop-left
invariant-loop-left l = l.types ++ written_vectors l.table.names l.left ≡ written_vectors l.table.names l.tokens

abbrev pub decreases-loop-left : goal.decreases-loop-left
decreases-loop-left l = length l.left
