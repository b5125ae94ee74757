-- The own monitor is entered at its node.
use Rattle.ec_acts.proofs.Acting.{entered_there, enters_nothing}
use Rattle.ec_acts.proofs.DoingsHolding.{has_monitor, lack_shown}
use Rattle.ec_acts.proofs.Stepping.{answered}
use Rattle.ec_acts.proofs.monitors.enter.Goals as goal
use Rattle.std.proofs.Common.{ap, ◌∙◌}
use Rattle.ec_world.specs.Outcomes.{only}

pub returns-in_default-clause-does : goal.returns-in_default-clause-does
returns-in_default-clause-does c = λ w mirrors. answered c.goes_on.ensures
    (enters_nothing c.args.system.now w c.args.who mirrors
    (lack_shown c.args.system.now.cluster w c.args.who.own c.requires mirrors.shows c.in_default.ensures.none))

pub enter-requires-clause-monitor : goal.enter-requires-clause-monitor
enter-requires-clause-monitor c =
    has_monitor c.args.system.now.cluster c.args.who.own c.in-Some.field-0.now c.in-Some.ensures.some

pub returns-clause-does : goal.returns-clause-does
returns-clause-does c = λ w mirrors. answered (c.only.ensures ∙ ap only c.entry_effect.ensures)
    (entered_there c.args.system.now w c.args.who mirrors c.enter.new.cluster c.in_ok-entry.ensures.changes c.in_ok-entry.ensures.whereabouts
    c.in_ok-entry.entry (c.in_ok-entry.ensures.acts w mirrors.shows))
