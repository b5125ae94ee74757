use Rattle.std.proofs.Common.{add-one}
use Rattle.ec_trial.proofs.Steps.{kinds-next}
use Rattle.ec_trial.proofs.drawing.draw_kinds.Goals as goal

pub loop-preserved : goal.loop-preserved
loop-preserved c = record {
  kinds = kinds-next _ _ _ _ _ _ _ _ c.loop-test.true c.in_ok-push.ensures.ok c.draw_kind.ensures.kind c.draw_kind.ensures.state
      c.loop.invariant.kinds;
  state = rw add-one (cc (c.draw_kind.ensures.state, c.loop.invariant.state));
}
