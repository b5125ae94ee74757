-- Code makes vectors of no type but those that the text writes.
use Rattle.ec_vector_types.proofs.Lowered.{makes_written}
use Rattle.ec_vector_types.proofs.laws.code_makes_written.Goals as goal

pub returns : goal.returns
returns start tokens program s p tree h lowered = makes_written tokens program s p tree h lowered
