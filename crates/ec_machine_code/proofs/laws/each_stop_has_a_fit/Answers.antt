-- The parts of the proof, for any kind.
use Rattle.ec_machine_code.proofs.Fitted.{each_fit}
use Rattle.ec_machine_code.proofs.laws.each_stop_has_a_fit.Goals as goal

pub returns : goal.returns
returns g c = each_fit g.T.Target.meaning
