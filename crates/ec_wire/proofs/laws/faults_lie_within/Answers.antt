use Rattle.ec_wire.proofs.FormLaws.{faults_within}
use Rattle.ec_wire.proofs.laws.faults_lie_within.Goals as goal

pub returns : goal.returns
returns c = faults_within
