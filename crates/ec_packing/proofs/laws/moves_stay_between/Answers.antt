-- A move by the operator does so too.
use Rattle.ec_packing.proofs.Worlds.{move_between}
use Rattle.ec_packing.proofs.laws.moves_stay_between.Goals as goal

pub returns : goal.returns
returns start p w o k h = move_between p w o k h
