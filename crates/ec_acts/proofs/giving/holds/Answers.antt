-- What the node has is the monitor of the object, if it has one.
use Rattle.std.proofs.Common.{sym, ap, ◌∙◌}
use Rattle.std.specs.Prelude.{option_map}
use Rattle.ec_acts.proofs.SettlingHolding.{held_or_not, lacks, no_node, nowhere, without_monitor}
use Rattle.ec_acts.proofs.giving.holds.Goals as goal
use Rattle.ec_stores.specs.Node.{store_of}

pub returns-in_default : goal.returns-in_default
returns-in_default c = λ w shows.
    without_monitor w.common.objects c.args.process c.args.oid
    (nowhere c.args.cluster.now w shows c.args.oid (sym c.place.ensures.at ∙ c.in_default.is))

pub returns-in_default-get : goal.returns-in_default-get
returns-in_default-get c = λ w shows.
    without_monitor w.common.objects c.args.process c.args.oid
    (no_node c.args.cluster.now w shows c.args.oid c.in-Some.k (sym c.place.ensures.at ∙ c.in-Some.is)
    (ap (option_map store_of) c.in_default-get.ensures.none))

pub returns-in-Some-monitor : goal.returns-in-Some-monitor
returns-in-Some-monitor c =
    held_or_not c.args.cluster.now c.args.process c.args.oid c.in-Some.k c.in-Some-get.node.now (sym c.place.ensures.at ∙ c.in-Some.is)
    c.in-Some-get.ensures.some c.in-Some-monitor.monitor.now c.in-Some-monitor.ensures.some c.is_held_by.result c.is_held_by.ensures

pub returns-in-None : goal.returns-in-None
returns-in-None c = λ w shows.
    without_monitor w.common.objects c.args.process c.args.oid
    (lacks c.args.cluster.now w shows c.args.oid c.in-Some.k (store_of c.in-Some-get.node.now) (sym c.place.ensures.at ∙ c.in-Some.is)
    (ap (option_map store_of) c.in-Some-get.ensures.some) c.in-None.ensures.none)
