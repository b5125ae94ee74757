-- One activation further down.
use Rattle.std.proofs.Common.{◌-◌, arith}
use Rattle.ec_acts.proofs.Owning.{all_owned, has_below, next_owned}
use Rattle.ec_acts.proofs.giving.owns_of.Goals as goal

pub own_at-requires : goal.own_at-requires
own_at-requires c =
    let low = c.loop-i-test.true in
    has_below c.args.cluster.now c.args.who (c.args.who.depth - 1 - c.loop-i.i) c.requires (omega (arith, low))

pub loop-i-preserved : goal.loop-i-preserved
loop-i-preserved c =
    next_owned c.args.cluster.now c.args.who c.loop-i.i c.own_at.result c.loop-i.owns c.push-in-loop-i.new.self c.loop-i-test.true
    c.loop-i.invariant c.own_at.ensures c.in_ok-push-2.ensures.ok

pub returns : goal.returns
returns c = all_owned c.args.cluster.now c.args.who c.loop-i.i c.loop-i.owns c.loop-i-test.false c.loop-i.invariant
