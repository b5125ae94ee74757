-- The worlds of a source and of what it is lowered to agree.
use Rattle.ec_emission_laws.proofs.Lowering as lowering
use Rattle.ec_emission_laws.proofs.lowered_code.lowered_worlds_agree.Goals as goal

pub returns : goal.returns
returns start = lowering.lowered_worlds_agree
