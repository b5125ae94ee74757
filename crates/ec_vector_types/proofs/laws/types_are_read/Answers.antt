-- The type that is read is that of the tree.
use Rattle.ec_vector_types.proofs.Reading.{read}
use Rattle.ec_vector_types.proofs.laws.types_are_read.Goals as goal

pub returns : goal.returns
returns start names tokens rest written is = read names is
