use Rattle.ec_moving.proofs.Silent.{nodes_stay_in_runs}
use Rattle.ec_moving.proofs.laws.nodes_stay_in_runs.Goals as goal

pub returns : goal.returns
returns start = nodes_stay_in_runs
