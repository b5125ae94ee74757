-- One activation after another goes.
use Rattle.ec_acts.proofs.Closing.{all_closed, next_closed, next_here, next_stands, top_closed, top_stands}
use Rattle.ec_acts.proofs.effects.close_all.Goals as goal

pub close-requires : goal.close-requires
close-requires c = top_stands c.args.cluster.now c.args.who c.requires

pub loop-i-init : goal.loop-i-init
loop-i-init c =
    top_closed c.args.cluster.now c.close.new.cluster c.args.who c.close.ensures.shows c.close.ensures.changes c.close.ensures.whereabouts

pub own_at-own-requires : goal.own_at-own-requires
own_at-own-requires c =
    next_here c.args.cluster.now c.loop-i.cluster c.args.who c.loop-i.i c.loop-i-test.true c.loop-i.invariant c.requires

pub close-requires-in-loop-i : goal.close-requires-in-loop-i
close-requires-in-loop-i c =
    next_stands c.args.cluster.now c.loop-i.cluster c.args.who c.loop-i.i c.loop-i-test.true c.loop-i.invariant c.own_at-own.result
    c.requires c.own_at-own.ensures

pub loop-i-preserved : goal.loop-i-preserved
loop-i-preserved c =
    next_closed c.args.cluster.now c.loop-i.cluster c.args.who c.loop-i.i c.loop-i-test.true c.loop-i.invariant
    c.close-in-loop-i.new.cluster c.own_at-own.result c.own_at-own.ensures c.close-in-loop-i.ensures.shows
    c.close-in-loop-i.ensures.changes c.close-in-loop-i.ensures.whereabouts

pub returns : goal.returns
returns c = all_closed c.args.cluster.now c.loop-i.cluster c.args.who c.loop-i.i c.loop-i-test.false c.loop-i.invariant
