use Rattle.ec_moving.proofs.Source.{nodes_stay_in_source_runs}
use Rattle.ec_moving.proofs.laws.nodes_stay_in_source_runs.Goals as goal

pub returns : goal.returns
returns start = nodes_stay_in_source_runs
