-- The operations of an accepted program wait and signal as they may.
use Rattle.ec_core_laws.proofs.Waiting.{each_waits}
use Rattle.ec_core_laws.proofs.laws.each_uses_its_conditions.Goals as goal

pub returns : goal.returns
returns start table program is none = each_waits table program is none
