-- One step after another.
use Rattle.std.proofs.Common.{List, sym, ap, ◌∙◌}
use Rattle.ec_cluster.proofs.Answered.{on_ok, on_ok_two}
use Rattle.ec_acts.proofs.Settled.{becomes, can_follow, can_take, row_there, settled_so, shows_some_top, top_shown}
use Rattle.ec_acts.proofs.settling.settle.Goals as goal
use Rattle.ec_acts.specs.Rows.{rows_readied}
use Rattle.ec_cluster.specs.declared.system.ProcessRow.{ProcessRow}
use Rattle.ec_world.specs.Outcomes.{all_granted}

pub give_up-requires : goal.give_up-requires
give_up-requires c = shows_some_top c.args.system.now c.args.who c.args.outcome c.requires

pub take_effect-requires : goal.take_effect-requires
take_effect-requires c =
    let r = c.requires in
    can_take c.args.system.now r.declared r.world r.below r.top c.args.who c.args.outcome r.settles c.give_up.new.cluster
    c.in_ok-freed.freed
    (c.in_ok-freed.ensures.gives r.world r.below r.top
    (top_shown c.args.system.now r.declared r.world r.below r.top c.args.who c.args.outcome r.settles))
    c.in_ok-freed.ensures.changes c.give_up.ensures.whereabouts (c.give_up.ensures.takes c.args.who.process r.below r.top)

pub set-requires : goal.set-requires
set-requires c = row_there c.args.system.now c.args.who c.args.outcome c.requires

pub follow-requires : goal.follow-requires
follow-requires c =
    let r = c.requires in
    let these = all_granted c.args.outcome.granted c.in_ok-freed.freed in
    can_follow c.args.system.now r.declared r.world r.below r.top c.args.who c.args.outcome r.settles c.give_up.new.cluster
    c.in_ok-freed.freed
    (c.in_ok-freed.ensures.gives r.world r.below r.top
    (top_shown c.args.system.now r.declared r.world r.below r.top c.args.who c.args.outcome r.settles))
    c.in_ok-freed.ensures.changes c.give_up.ensures.whereabouts (c.give_up.ensures.takes c.args.who.process r.below r.top)
    c.take_effect.new.cluster c.in_ok-take_effect.ensures c.in_ok-row.row c.in_ok-row.ensures c.ready_each.new.rows
    (c.ready_each.ensures ∙ ap (rows_readied c.ready_granted.new.rows) c.as_slice.ensures
    ∙ sym (c.ready_granted.ensures c.in_ok-freed.freed) ∙ ap (λ (rs : List ProcessRow). rows_readied rs these) c.set.ensures)

pub returns-clause-settles : goal.returns-clause-settles
returns-clause-settles c = on_ok_two c.follow.result
    (λ mirrors changes d w below top x.
    let these = all_granted c.args.outcome.granted c.in_ok-freed.freed in
    settled_so c.args.system.now d w below top c.args.who c.args.outcome x c.give_up.new.cluster c.in_ok-freed.freed
    (c.in_ok-freed.ensures.gives w below top (top_shown c.args.system.now d w below top c.args.who c.args.outcome x))
    c.in_ok-freed.ensures.changes c.give_up.ensures.whereabouts (c.give_up.ensures.takes c.args.who.process below top)
    c.take_effect.new.cluster c.in_ok-take_effect.ensures c.in_ok-row.row c.in_ok-row.ensures c.ready_each.new.rows
    (c.ready_each.ensures ∙ ap (rows_readied c.ready_granted.new.rows) c.as_slice.ensures
    ∙ sym (c.ready_granted.ensures c.in_ok-freed.freed) ∙ ap (λ (rs : List ProcessRow). rows_readied rs these) c.set.ensures)
    c.follow.new.system mirrors changes c.follow.ensures.whereabouts)
    c.follow.ensures.mirrors c.follow.ensures.changes

pub returns-clause-whereabouts : goal.returns-clause-whereabouts
returns-clause-whereabouts c = on_ok c.follow.result
    (λ mirrors.
    let r = c.requires in
    let there = becomes c.args.system.now r.declared r.world r.below r.top c.args.who c.args.outcome r.settles c.give_up.new.cluster
    c.in_ok-freed.freed
    (c.in_ok-freed.ensures.gives r.world r.below r.top
    (top_shown c.args.system.now r.declared r.world r.below r.top c.args.who c.args.outcome r.settles))
    c.in_ok-freed.ensures.changes c.give_up.ensures.whereabouts (c.give_up.ensures.takes c.args.who.process r.below r.top)
    c.take_effect.new.cluster c.in_ok-take_effect.ensures in
    c.follow.ensures.whereabouts ∙ there.whereabouts ∙ c.give_up.ensures.whereabouts)
    c.follow.ensures.mirrors
