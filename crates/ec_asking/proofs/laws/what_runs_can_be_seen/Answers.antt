use Rattle.ec_asking.proofs.Programs.{runs_seen}
use Rattle.ec_asking.proofs.laws.what_runs_can_be_seen.Goals as goal

pub returns : goal.returns
returns c = λ d s w runs bare. runs_seen d s w runs bare
