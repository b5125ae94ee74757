-- The first world is one.
use Rattle.ec_packing.proofs.Worlds.{first_between}
use Rattle.ec_packing.proofs.laws.first_is_between.Goals as goal

pub returns : goal.returns
returns start d p fine n = first_between d p fine n
