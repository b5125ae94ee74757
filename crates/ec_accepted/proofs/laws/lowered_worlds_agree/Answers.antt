-- The worlds of an accepted program and of its code agree.
use Rattle.ec_accepted.proofs.Accepted.{worlds_agree}
use Rattle.ec_accepted.proofs.laws.lowered_worlds_agree.Goals as goal

pub returns : goal.returns
returns start s program p a lowered n entries = worlds_agree s program a p lowered n entries
