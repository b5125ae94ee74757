use Rattle.ec_asking.proofs.Programs.{runs_program}
use Rattle.ec_asking.proofs.laws.what_runs_is_seen.Goals as goal

pub returns : goal.returns
returns c = λ d s w runs bare. runs_program d s w runs bare
