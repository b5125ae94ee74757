use Rattle.std.proofs.Common.{refl}
use Rattle.ec_trial.proofs.Steps.{entries-next, entries-end}
use Rattle.ec_trial.proofs.drawing.draw_entries.Goals as goal

pub loop-init : goal.loop-init
loop-init c = rw c.new-entries.ensures refl

pub loop-preserved : goal.loop-preserved
loop-preserved c =
    entries-next _ _ _ _ 300 _ _ _ _ _ c.loop-test.true c.in_ok-push.ensures.ok c.draw_entry.ensures.entry
    c.draw_entry.ensures.state c.loop.invariant

pub returns : goal.returns
returns c = entries-end _ _ 300 _ _ _ _ c.loop-test.false c.loop.invariant
