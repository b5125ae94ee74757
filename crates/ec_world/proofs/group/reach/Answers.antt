use Rattle.std.proofs.Common.{rules, sym, ◌∙◌}
use Rattle.ec_world.specs.Group.{links_of}
use Rattle.ec_world.proofs.Searching.{found_first, found_next, work_next, search_done}
use Rattle.ec_world.proofs.group.reach.Goals as goal

pub loop-oid-init : goal.loop-oid-init
loop-oid-init c = found_first c.args.common.now c.args.x _ _ _ c.len.ensures (search rules) c.new.ensures c.in_ok-find.ensures

pub loop-oid-smaller : goal.loop-oid-smaller
loop-oid-smaller c = work_next c.loop-oid.search c.follow.new.self c.in-Some.oid _ (links_of c.args.common.now c.in-Some.oid)
    c.in-Some.ensures.top c.in-Some.ensures.below c.in_ok-follow.ensures

pub loop-oid-preserved : goal.loop-oid-preserved
loop-oid-preserved c = found_next c.args.common.now c.args.x c.in-Some.oid c.loop-oid.search _ _ c.loop-oid.invariant
    c.in-Some.ensures.top c.in-Some.ensures.below c.in_ok-follow.ensures

pub returns : goal.returns
returns c = search_done c.args.common.now c.args.x c.loop-oid.search c.loop-oid.invariant (sym c.in_default.is ∙ c.pop.ensures.top)
