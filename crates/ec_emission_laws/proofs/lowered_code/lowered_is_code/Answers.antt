-- What a source is lowered to is its code.
use Rattle.ec_emission_laws.proofs.Lowering as lowering
use Rattle.ec_emission_laws.proofs.lowered_code.lowered_is_code.Goals as goal

pub returns : goal.returns
returns start = lowering.lowered_is_code
