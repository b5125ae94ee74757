-- The core of an accepted program is tied to its tree.
use Rattle.ec_core_laws.proofs.CoreTiesPrograms.{program_tied}
use Rattle.ec_core_laws.proofs.core_texts.core_ties.each_core_is_tied.Goals as goal

pub returns : goal.returns
returns start table program is none targets = program_tied table program none targets
