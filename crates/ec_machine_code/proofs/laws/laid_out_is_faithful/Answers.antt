-- The parts of the proof, for any kind.
use Rattle.ec_machine_code.proofs.Faithful.{faithful}
use Rattle.ec_machine_code.proofs.laws.laid_out_is_faithful.Goals as goal

pub returns : goal.returns
returns g c = faithful g.T.Target.meaning
