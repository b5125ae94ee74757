-- A search that ends has found the group.
use Rattle.std.proofs.Common.{refl, sym, ◌∙◌}
use Rattle.ec_cluster.specs.Whereabouts.{made_count}
use Rattle.ec_cluster.proofs.Marking.{search_begun, search_ended, search_more, work_less}
use Rattle.ec_cluster.proofs.seen.searching.reach.Goals as goal

pub loop-next-init : goal.loop-next-init
loop-next-init c =
    search_begun c.args.seen.now c.args.oid (record { members = c.new.result; todo = c.new-2.result }) c.find.new.self c.new.ensures.empty
    c.new-2.ensures c.in_ok-find.ensures

pub loop-next-smaller : goal.loop-next-smaller
loop-next-smaller c =
    work_less (made_count c.args.seen.now.whereabouts) c.in-Some.next c.loop-next.search
    (record { members = c.loop-next.search.members; todo = c.pop.new.self }) c.find_all.new.self c.deref.result.now
    c.in-Some.ensures.top refl c.in-Some.ensures.below c.in_ok-find_all.ensures

pub loop-next-preserved : goal.loop-next-preserved
loop-next-preserved c =
    search_more c.args.seen.now c.args.oid c.in-Some.next c.loop-next.search
    (record { members = c.loop-next.search.members; todo = c.pop.new.self }) c.find_all.new.self c.deref.result.now c.loop-next.invariant
    c.in-Some.ensures.top refl c.in-Some.ensures.below (c.deref.ensures.value ∙ c.in_ok-linked.ensures) c.in_ok-find_all.ensures

pub returns : goal.returns
returns c =
    search_ended c.args.seen.now c.args.oid c.loop-next.search c.loop-next.invariant (sym c.in_default.is ∙ c.pop.ensures.top)
