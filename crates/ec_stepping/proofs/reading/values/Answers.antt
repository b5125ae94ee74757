use Rattle.std.proofs.Common.{◌≡◌, Some, None, sym, ◌∙◌}
use Rattle.ec_code.specs.Steps.{variable_at}
use Rattle.ec_stepping.proofs.Taken.{missing, taken}
use Rattle.ec_stepping.specs.Stepping.{as_machine}
use Rattle.ec_stepping.proofs.reading.values.Goals as goal

pub loop-n-preserved : goal.loop-n-preserved
loop-n-preserved c =
    let is : variable_at (as_machine c.args.m.now) c.at.result.now ≡ Some c.in-Some.value =
    let a = c.variable.ensures in let b = c.in_ok-value.ensures in let d = c.in-Some.is in cc in
    rw c.in_ok-push.ensures.ok
    (sym (taken (as_machine c.args.m.now) c.args.xs.now c.loop-n.n c.at.result.now c.at.ensures c.loop-n.found c.in-Some.value is)
    ∙ c.loop-n.invariant)

pub returns-in_default : goal.returns-in_default
returns-in_default c =
    let is : variable_at (as_machine c.args.m.now) c.at.result.now ≡ None =
    let a = c.variable.ensures in let b = c.in_ok-value.ensures in let d = c.in_default.is in cc in
    sym (missing (as_machine c.args.m.now) c.args.xs.now c.loop-n.n c.at.result.now c.at.ensures c.loop-n.found is)
    ∙ c.loop-n.invariant
