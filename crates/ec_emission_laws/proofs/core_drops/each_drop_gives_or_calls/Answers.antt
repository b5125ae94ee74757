-- What an accepted core drops gives a value or is a call.
use Rattle.ec_emission_laws.proofs.Dropping.{each_drops}
use Rattle.ec_emission_laws.proofs.core_drops.each_drop_gives_or_calls.Goals as goal

pub returns : goal.returns
returns start table program is none = each_drops table program is none
