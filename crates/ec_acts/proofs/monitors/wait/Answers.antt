-- The holder acts on the own monitor at its node, and nobody else.
use Rattle.std.proofs.Common.{sym, ◌∙◌}
use Rattle.ec_acts.proofs.Acting.{waited_there, waits_for_nothing, waits_outside}
use Rattle.ec_acts.proofs.DoingsHolding.{lack_shown, monitor_shown, waits_at}
use Rattle.ec_acts.proofs.Stepping.{answered}
use Rattle.ec_acts.proofs.monitors.wait.Goals as goal

pub returns-in_default-clause-does : goal.returns-in_default-clause-does
returns-in_default-clause-does c = λ w mirrors. answered c.goes_on.ensures
    (waits_for_nothing c.args.system.now w c.args.who mirrors c.args.condition
    (lack_shown c.args.system.now.cluster w c.args.who.own c.requires mirrors.shows c.in_default.ensures.none))

pub returns-then-not-acts_on-clause-does : goal.returns-then-not-acts_on-clause-does
returns-then-not-acts_on-clause-does c = λ w mirrors. answered c.waits.ensures
    (waits_outside c.args.system.now w c.args.who mirrors c.in-Some.monitor.now
    (monitor_shown c.args.system.now.cluster w c.args.who.own c.requires mirrors.shows c.in-Some.monitor.now c.in-Some.ensures.some)
    c.args.condition (sym c.acts_on.ensures ∙ c.if-not-acts_on.true))

pub wait-granted-requires-clause-waits : goal.wait-granted-requires-clause-waits
wait-granted-requires-clause-waits c =
    waits_at c.args.system.now.cluster c.args.who.own c.in-Some.monitor.now c.in-Some.ensures.some c.args.who.process c.args.condition
    (sym c.acts_on.ensures ∙ c.if-not-acts_on.false)

pub returns-clause-does : goal.returns-clause-does
returns-clause-does c = λ w mirrors. answered c.waits-2.ensures
    (waited_there c.args.system.now w c.args.who mirrors c.wait-granted.new.cluster c.wait-granted.ensures.changes
    c.wait-granted.ensures.whereabouts
    c.in-Some.monitor.now
    (monitor_shown c.args.system.now.cluster w c.args.who.own c.requires mirrors.shows c.in-Some.monitor.now c.in-Some.ensures.some)
    c.args.condition c.wait-granted.result (sym c.acts_on.ensures ∙ c.if-not-acts_on.false) (c.wait-granted.ensures.acts w mirrors.shows))
