-- No pending stop of the source lacks a case.
use Rattle.ec_accepted.proofs.Accepted.{is_code}
use Rattle.ec_emission.proofs.Agreeing as agreeing
use Rattle.ec_emission.proofs.Programs.{lowered}
use Rattle.ec_emission.specs.Lowered.{declared_of}
use Rattle.ec_emission_laws.specs.Lowerable.{lowered_loops}
use Rattle.ec_accepted.proofs.laws.no_stop_lacks_a_case.Goals as goal

pub returns : goal.returns
returns start s program a =
    let made = lowered s in
    agreeing.source_stop_has_case lowered_loops s (declared_of s) made.0 (is_code s program a made.0 made.1)
