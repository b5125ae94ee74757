use Rattle.std.proofs.Common.{◌≡◌, ◌+◌, arith, sym, ◌∙◌}
use Rattle.ec_native_run.proofs.Shown.{status_next, statuses_all}
use Rattle.ec_native_run.proofs.processes.statuses_in.Goals as goal

pub processes-preserved : goal.processes-preserved
processes-preserved c = λ d s w is stands.
    let next : c.in-Some-checked_add.next ≡ c.processes.p + 1 = omega (arith, c.in-Some-checked_add.ensures) in
    rw (c.in_ok-push.ensures.items, next) (status_next w c.processes.statuses.items c.processes.p
    (c.processes.invariant d s w is stands) c.in-Some.status (c.in-Some.ensures d s w is stands))

pub returns : goal.returns
returns c = λ d s w is stands.
    statuses_all w c.processes.statuses.items c.processes.p (c.processes.invariant d s w is stands)
    (sym c.in_default.is ∙ c.process.ensures d s w is stands)
