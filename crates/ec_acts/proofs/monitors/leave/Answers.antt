-- The holder leaves the own monitor at its node, and nobody else.
use Rattle.std.proofs.Common.{◌≡◌, ℕ, sym, ap, ◌∙◌}
use Rattle.std.specs.Prelude.{None, Option}
use Rattle.ec_acts.proofs.Acting.{leaves_no_monitor, leaves_nothing, leaves_outside, left_there}
use Rattle.ec_acts.proofs.DoingsHolding.{holds_monitor, lack_shown, monitor_shown}
use Rattle.ec_acts.proofs.Stepping.{answered}
use Rattle.ec_acts.proofs.monitors.leave.Goals as goal
use Rattle.ec_monitors.specs.declared.record.Granted.{Granted}
use Rattle.ec_world.specs.Outcomes.{section_on}
use Rattle.ec_world.specs.declared.doing.Outcome.{Outcome}
use Rattle.ec_world.specs.declared.doing.Section.{Section}
use Rattle.ec_world.specs.declared.stop.Effect.TheVariants.{Leaves}
use Rattle.ec_world.specs.declared.value.Value.{Value}

abbrev leaving : Option Value → Option Granted → Option Section → Outcome
leaving given granted started = record { effect = Leaves given; granted = granted; started = started }

-- what is answered names the section that begins
started_is : (o : Outcome) (given : Option Value) (granted : Option Granted) (own : ℕ) (section : Option ℕ) (started : Option Section) →
    started ≡ section_on own section → o ≡ leaving given granted started → o ≡ leaving given granted (section_on own section)
started_is o given granted own section started is e = e ∙ ap (leaving given granted) is

pub returns-then-not-leaves-clause-does : goal.returns-then-not-leaves-clause-does
returns-then-not-leaves-clause-does c = λ w mirrors. answered
    (started_is c.returns.result c.args.given None c.args.who.own c.args.section c.section_on-started.result c.section_on-started.ensures
    c.returns.ensures)
    (leaves_no_monitor c.args.system.now w c.args.who mirrors c.args.given c.args.section c.args.leaves c.if-not-leaves.true)

pub returns-in_default-clause-does : goal.returns-in_default-clause-does
returns-in_default-clause-does c = λ w mirrors. answered
    (started_is c.returns-in_default.result c.args.given None c.args.who.own c.args.section c.section_on-started.result
    c.section_on-started.ensures c.returns-in_default.ensures)
    (leaves_nothing c.args.system.now w c.args.who mirrors c.args.given c.args.section c.args.leaves c.if-not-leaves.false
    (lack_shown c.args.system.now.cluster w c.args.who.own c.requires mirrors.shows c.in_default.ensures.none))

pub returns-then-not-is_held_by-clause-does : goal.returns-then-not-is_held_by-clause-does
returns-then-not-is_held_by-clause-does c = λ w mirrors. answered
    (started_is c.returns-then-not-is_held_by.result c.args.given None c.args.who.own c.args.section c.section_on-started.result
    c.section_on-started.ensures c.returns-then-not-is_held_by.ensures)
    (leaves_outside c.args.system.now w c.args.who mirrors c.in-Some.monitor.now
    (monitor_shown c.args.system.now.cluster w c.args.who.own c.requires mirrors.shows c.in-Some.monitor.now c.in-Some.ensures.some)
    c.args.given c.args.section c.args.leaves c.if-not-leaves.false (sym c.is_held_by.ensures ∙ c.if-not-is_held_by.true))

pub leave-granted-requires-clause-holds : goal.leave-granted-requires-clause-holds
leave-granted-requires-clause-holds c =
    holds_monitor c.args.system.now.cluster c.args.who.own c.in-Some.monitor.now c.in-Some.ensures.some c.args.who.process
    (sym c.is_held_by.ensures ∙ c.if-not-is_held_by.false)

pub returns-clause-does : goal.returns-clause-does
returns-clause-does c = λ w mirrors. answered
    (started_is c.returns-2.result c.args.given c.leave-granted.result c.args.who.own c.args.section c.section_on-started.result
    c.section_on-started.ensures c.returns-2.ensures)
    (left_there c.args.system.now w c.args.who mirrors c.leave-granted.new.cluster c.leave-granted.ensures.changes
    c.leave-granted.ensures.whereabouts c.in-Some.monitor.now
    (monitor_shown c.args.system.now.cluster w c.args.who.own c.requires mirrors.shows c.in-Some.monitor.now c.in-Some.ensures.some)
    c.args.given c.args.section c.args.leaves c.leave-granted.result c.if-not-leaves.false
    (sym c.is_held_by.ensures ∙ c.if-not-is_held_by.false) (c.leave-granted.ensures.acts w mirrors.shows))
