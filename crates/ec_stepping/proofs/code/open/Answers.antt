use Rattle.std.proofs.Common.{sym, ◌∙◌, arith}
use Rattle.ec_stepping.proofs.Opened.{one_opened}
use Rattle.ec_stepping.proofs.code.open.Goals as goal

pub loop-n-preserved : goal.loop-n-preserved
loop-n-preserved c =
    rw c.in_ok-push.ensures.ok
    (sym (one_opened c.loop-n.variables c.args.count c.loop-n._n (omega arith)) ∙ c.loop-n.invariant)
