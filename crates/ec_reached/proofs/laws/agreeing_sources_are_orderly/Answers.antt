use Rattle.ec_reached.proofs.Agreements.{agreeing_sources}
use Rattle.ec_reached.proofs.laws.agreeing_sources_are_orderly.Goals as goal

pub returns : goal.returns
returns start = agreeing_sources
