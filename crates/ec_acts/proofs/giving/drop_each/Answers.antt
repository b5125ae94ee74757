-- One object more.
use Rattle.std.proofs.Common.{List, ℕ, sym, subst}
use Rattle.ec_acts.proofs.Dropped.{Drops, all_dropped, none_dropped, one_dropped}
use Rattle.ec_acts.proofs.giving.drop_each.Goals as goal

pub loop-own-init : goal.loop-own-init
loop-own-init c =
    subst (λ (freed : List ℕ). Drops c.args.cluster.now c.args.cluster.now c.args.process c.args.owns.now 0 freed) (sym c.new-freed.ensures)
    (none_dropped c.args.cluster.now c.args.process c.args.owns.now)

pub loop-own-preserved : goal.loop-own-preserved
loop-own-preserved c =
    one_dropped c.args.cluster.now c.args.process c.args.owns.now c.loop-own.cluster c.drop_at-granted.new.cluster c.loop-own.own-index
    c.loop-own.freed c.push_granted.new.freed c.drop_at-granted.result c.loop-own.invariant c.loop-own-test.true
    c.drop_at-granted.ensures.shows c.drop_at-granted.ensures.changes c.drop_at-granted.ensures.whereabouts c.in_ok-push_granted.ensures

pub returns-clause-shows : goal.returns-clause-shows
returns-clause-shows c = λ w shows.
    all_dropped c.args.cluster.now c.args.process c.args.owns.now c.loop-own.cluster c.loop-own.own-index c.loop-own.freed
    c.loop-own.invariant c.loop-own-test.false w shows
