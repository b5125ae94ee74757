-- What lowering asks holds of the source of each accepted program.
use Rattle.ec_emission_laws.proofs.Accepting.{is_lowerable}
use Rattle.ec_emission_laws.proofs.lowered_code.accepted_is_lowerable.Goals as goal

pub returns : goal.returns
returns start = is_lowerable
