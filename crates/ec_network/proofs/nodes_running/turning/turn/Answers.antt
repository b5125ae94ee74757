-- The system that has acted stands in the world after the action, from which the process goes on.
use Rattle.std.proofs.Common.{subst, sym}
use Rattle.ec_cluster.proofs.Going.{none_moved}
use Rattle.ec_cluster.specs.Whereabouts.{MovedOnce, Traces}
use Rattle.ec_network.specs.Acts.{ActedIn}
use Rattle.ec_network.proofs.NodesRunningTold.{from_none}
use Rattle.ec_network.proofs.Tops.{some_top}
use Rattle.ec_network.proofs.Turned.{begins, no_turn, some_acted, some_idle, turn_acted, turn_idle}
use Rattle.ec_network.proofs.nodes_running.turning.turn.Goals as goal

pub returns-in_default-clause-turned : goal.returns-in_default-clause-turned
returns-in_default-clause-turned c = λ d w s.
    no_turn c.args.system.now w c.args.p (from_none c.top_of.result c.in_default.is c.top_of.ensures.none d w s.works.goes.runs)

pub returns-in_default-clause-moves : goal.returns-in_default-clause-moves
returns-in_default-clause-moves c = none_moved c.args.system.now.cluster.whereabouts

pub act-requires-clause-begins : goal.act-requires-clause-begins
act-requires-clause-begins c =
    let stands = c.requires.stands in
    (stands.0, (stands.1.0, begins stands.0 c.args.system.now stands.1.0 c.args.numbers.now stands.1.1 c.requires.numbers))

pub run_if_done-requires : goal.run_if_done-requires
run_if_done-requires c =
    let d = c.requires.stands.0 in
    let w = c.requires.stands.1.0 in
    let s = c.requires.stands.1.1 in
    some_idle d c.args.system.now c.act.new.system w c.args.p s
    (subst (λ a. ActedIn d c.args.system.now c.act.new.system w c.args.p a) c.in-Ok-Idle.field-0-is
    (c.in-Ok-Idle.ensures.acted d w (begins d c.args.system.now w c.args.numbers.now s c.requires.numbers)))

pub run_if_done-requires-in-Ok-Done : goal.run_if_done-requires-in-Ok-Done
run_if_done-requires-in-Ok-Done c =
    let d = c.requires.stands.0 in
    let w = c.requires.stands.1.0 in
    let s = c.requires.stands.1.1 in
    some_acted d c.args.system.now c.act.new.system w c.args.p s
    (subst (λ a. ActedIn d c.args.system.now c.act.new.system w c.args.p a) c.in-Ok-Done.field-0-is
    (c.in-Ok-Done.ensures.acted d w (begins d c.args.system.now w c.args.numbers.now s c.requires.numbers)))

pub returns-in-Ok-Idle-clause-turned : goal.returns-in-Ok-Idle-clause-turned
returns-in-Ok-Idle-clause-turned c = λ d w s.
    turn_idle d c.args.system.now c.act.new.system w c.args.p s c.run_if_done.new.system c.run_if_done.result
    (subst (λ a. ActedIn d c.args.system.now c.act.new.system w c.args.p a) c.in-Ok-Idle.field-0-is
    (c.in-Ok-Idle.ensures.acted d w (begins d c.args.system.now w c.args.numbers.now s c.requires.numbers)))
    (some_top w c.args.p c.in-Some._headings (c.in-Some.ensures.some d w s.works.goes.runs)) c.run_if_done.ensures.after

pub returns-in-Ok-Done-clause-turned : goal.returns-in-Ok-Done-clause-turned
returns-in-Ok-Done-clause-turned c = λ d w s.
    turn_acted d c.args.system.now c.act.new.system w c.args.p s c.run_if_done-in-Ok-Done.new.system c.run_if_done-in-Ok-Done.result
    (subst (λ a. ActedIn d c.args.system.now c.act.new.system w c.args.p a) c.in-Ok-Done.field-0-is
    (c.in-Ok-Done.ensures.acted d w (begins d c.args.system.now w c.args.numbers.now s c.requires.numbers)))
    (some_top w c.args.p c.in-Some._headings (c.in-Some.ensures.some d w s.works.goes.runs)) c.run_if_done-in-Ok-Done.ensures.after

pub returns-in-Ok-Idle-clause-moves : goal.returns-in-Ok-Idle-clause-moves
returns-in-Ok-Idle-clause-moves c =
    subst (λ (d : Traces). MovedOnce c.args.system.now.cluster.whereabouts d) (sym c.run_if_done.ensures.whereabouts)
    c.in-Ok-Idle.ensures.moves

pub returns-in-Ok-Done-clause-moves : goal.returns-in-Ok-Done-clause-moves
returns-in-Ok-Done-clause-moves c =
    subst (λ (d : Traces). MovedOnce c.args.system.now.cluster.whereabouts d) (sym c.run_if_done-in-Ok-Done.ensures.whereabouts)
    c.in-Ok-Done.ensures.moves
