-- Its code makes no others.
use Rattle.ec_tool.proofs.laws.each_vector_is_written.Goals as goal
use Rattle.ec_vector_types.proofs.Lowered.{makes_written}

pub returns : goal.returns
returns start text source meant p lowered =
    makes_written meant.tokens meant.program source p meant.is_program.has_tree meant.has_core lowered
