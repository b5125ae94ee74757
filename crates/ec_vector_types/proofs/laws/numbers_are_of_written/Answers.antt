-- No others are numbered, since the code makes no others.
use Rattle.ec_parcels.proofs.Types.{none_but}
use Rattle.ec_vector_types.proofs.Lowered.{makes_written}
use Rattle.ec_vector_types.proofs.laws.numbers_are_of_written.Goals as goal
use Rattle.ec_vector_types.specs.Written.{written_vectors}

pub returns : goal.returns
returns start tokens program s p tree h lowered =
    none_but p (written_vectors s.table.names tokens) (makes_written tokens program s p tree h lowered)
