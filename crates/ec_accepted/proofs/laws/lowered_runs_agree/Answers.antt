-- So do their runs.
use Rattle.ec_accepted.proofs.Accepted.{runs_agree}
use Rattle.ec_accepted.proofs.laws.lowered_runs_agree.Goals as goal

pub returns : goal.returns
returns start s program p a lowered n schedule k = runs_agree s program a p lowered n schedule k
