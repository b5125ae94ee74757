-- The group for which an activation asks.
use Rattle.ec_gathering.proofs.Moves.{asks_may}
use Rattle.ec_gathering.proofs.laws.asks_may_gather.Goals as goal

pub returns : goal.returns
returns c = asks_may
