use Rattle.ec_accepted.proofs.Accepted.{worlds_agree}
use Rattle.ec_reached.proofs.Agreements.{agreeing_sources}
use Rattle.ec_reached.proofs.laws.accepted_sources_are_orderly.Goals as goal

pub returns : goal.returns
returns start s program p accepted lowered n entries = agreeing_sources s p lowered n entries (worlds_agree s program accepted p lowered n entries)
