use Rattle.ec_moving.proofs.Worlds.{move_brings}
use Rattle.ec_moving.proofs.laws.move_brings_the_group.Goals as goal

pub returns : goal.returns
returns g c = move_brings
