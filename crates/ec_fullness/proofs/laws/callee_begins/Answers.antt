use Rattle.ec_fullness.proofs.Calls.{callee_begins}
use Rattle.ec_fullness.proofs.laws.callee_begins.Goals as goal

pub returns : goal.returns
returns c = callee_begins
