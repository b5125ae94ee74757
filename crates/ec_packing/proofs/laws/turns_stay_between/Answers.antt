-- A turn leads from one to another.
use Rattle.ec_packing.proofs.Worlds.{turn_between}
use Rattle.ec_packing.proofs.laws.turns_stay_between.Goals as goal

pub returns : goal.returns
returns start d p fine few w process s h = turn_between d p fine few w process s h
