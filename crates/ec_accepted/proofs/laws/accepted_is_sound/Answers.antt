-- The typing of code has what it rests on.
use Rattle.ec_accepted.proofs.Accepted.{is_sound}
use Rattle.ec_accepted.proofs.laws.accepted_is_sound.Goals as goal

pub returns : goal.returns
returns start s program a = is_sound s program a
