-- No stop of the source lacks a case.
use Rattle.ec_emission.proofs.Agreeing as agreeing
use Rattle.ec_emission.proofs.agreement.no_source_stop_lacks_a_case.Goals as goal

pub returns : goal.returns
returns g c = agreeing.source_stop_has_case g.L.Loops.stand
