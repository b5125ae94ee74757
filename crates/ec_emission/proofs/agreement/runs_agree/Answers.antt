-- Runs agree.
use Rattle.ec_emission.proofs.Agreeing as agreeing
use Rattle.ec_emission.proofs.agreement.runs_agree.Goals as goal

pub returns : goal.returns
returns g c = agreeing.runs_agree g.L.Loops.stand
