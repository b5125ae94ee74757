-- There is one.
use Rattle.ec_rooms.proofs.Single.{one_full}
use Rattle.ec_rooms.proofs.laws.full_is_one.Goals as goal

pub returns : goal.returns
returns start = one_full
