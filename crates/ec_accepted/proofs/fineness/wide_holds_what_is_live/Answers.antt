-- Lists by which code is well typed hold each variable that is live.
use Rattle.ec_accepted.proofs.Exact.{held}
use Rattle.ec_accepted.proofs.fineness.wide_holds_what_is_live.Goals as goal

pub returns : goal.returns
returns start d p number o w ops lines wide has place x t live = held wide has place x t live
