use Rattle.std.proofs.Common.{length}
use Rattle.ec_vector_types.proofs.written.+type_at.Given as goal

abbrev pub decreases-type_at : goal.decreases-type_at
decreases-type_at l = length l.tokens.now
