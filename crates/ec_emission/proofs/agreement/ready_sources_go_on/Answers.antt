-- Ready processes of the source go on.
use Rattle.ec_emission.proofs.Agreeing as agreeing
use Rattle.ec_emission.proofs.agreement.ready_sources_go_on.Goals as goal

pub returns : goal.returns
returns g c = agreeing.ready_source_goes_on g.L.Loops.stand
