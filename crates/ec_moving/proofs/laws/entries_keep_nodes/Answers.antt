use Rattle.ec_moving.proofs.Worlds.{entries_keep}
use Rattle.ec_moving.proofs.laws.entries_keep_nodes.Goals as goal

pub returns : goal.returns
returns g c = entries_keep g.A.Activation.meaning
