-- Worlds agree.
use Rattle.ec_emission.proofs.Agreeing as agreeing
use Rattle.ec_emission.proofs.agreement.worlds_agree.Goals as goal

pub returns : goal.returns
returns g c = agreeing.worlds_agree g.L.Loops.stand
