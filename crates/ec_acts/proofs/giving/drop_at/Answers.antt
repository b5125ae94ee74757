-- The monitor is dropped, or nothing is.
use Rattle.std.proofs.Common.{None, refl}
use Rattle.ec_acts.proofs.SettlingHolding.{drops, drops_nothing}
use Rattle.ec_acts.proofs.giving.drop_at.Goals as goal

pub returns-then-holds-clause-shows : goal.returns-then-holds-clause-shows
returns-then-holds-clause-shows c = λ w shows.
    drops c.args.cluster.now c.drop_all.new.cluster c.args.process c.args.oid c.drop_all.result w shows c.if-holds.ensures
    (c.drop_all.ensures.acts w shows)

pub returns-else-holds-clause-shows : goal.returns-else-holds-clause-shows
returns-else-holds-clause-shows c = λ w shows.
    drops_nothing c.args.cluster.now c.args.cluster.now c.args.process c.args.oid None w shows c.if-holds.ensures refl refl
