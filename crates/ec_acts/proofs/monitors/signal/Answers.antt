-- The holder acts on the own monitor at its node, and nobody else.
use Rattle.std.proofs.Common.{sym, ◌∙◌}
use Rattle.ec_acts.proofs.Acting.{signalled_there, signals_nothing, signals_outside}
use Rattle.ec_acts.proofs.DoingsHolding.{lack_shown, monitor_shown, waits_at}
use Rattle.ec_acts.proofs.Stepping.{answered}
use Rattle.ec_acts.proofs.monitors.signal.Goals as goal

pub returns-in_default-clause-does : goal.returns-in_default-clause-does
returns-in_default-clause-does c = λ w mirrors. answered c.goes_on.ensures
    (signals_nothing c.args.system.now w c.args.who mirrors c.args.condition
    (lack_shown c.args.system.now.cluster w c.args.who.own c.requires mirrors.shows c.in_default.ensures.none))

pub returns-then-not-acts_on-clause-does : goal.returns-then-not-acts_on-clause-does
returns-then-not-acts_on-clause-does c = λ w mirrors. answered c.signals.ensures
    (signals_outside c.args.system.now w c.args.who mirrors c.in-Some.monitor.now
    (monitor_shown c.args.system.now.cluster w c.args.who.own c.requires mirrors.shows c.in-Some.monitor.now c.in-Some.ensures.some)
    c.args.condition (sym c.acts_on.ensures ∙ c.if-not-acts_on.true))

pub signal-granted-requires-clause-waits : goal.signal-granted-requires-clause-waits
signal-granted-requires-clause-waits c =
    waits_at c.args.system.now.cluster c.args.who.own c.in-Some.monitor.now c.in-Some.ensures.some c.args.who.process c.args.condition
    (sym c.acts_on.ensures ∙ c.if-not-acts_on.false)

pub returns-clause-does : goal.returns-clause-does
returns-clause-does c = λ w mirrors. answered c.signals-2.ensures
    (signalled_there c.args.system.now w c.args.who mirrors c.signal-granted.new.cluster c.signal-granted.ensures.changes
    c.signal-granted.ensures.whereabouts
    c.in-Some.monitor.now
    (monitor_shown c.args.system.now.cluster w c.args.who.own c.requires mirrors.shows c.in-Some.monitor.now c.in-Some.ensures.some)
    c.args.condition c.signal-granted.result (sym c.acts_on.ensures ∙ c.if-not-acts_on.false) (c.signal-granted.ensures.acts w
    mirrors.shows))
