use Rattle.ec_fullness.proofs.FittingWaiting.{entry_waiters}
use Rattle.ec_fullness.proofs.laws.entries_keep_waiters.Goals as goal

pub returns : goal.returns
returns c = entry_waiters
