use Rattle.ec_trial.proofs.Steps.{workers-next}
use Rattle.ec_trial.proofs.source.push_workers.Goals as goal

pub loop-i-preserved : goal.loop-i-preserved
loop-i-preserved c = workers-next _ _ _ _ _ c.loop-i-test.true c.in_ok-push_worker.ensures c.loop-i.invariant
