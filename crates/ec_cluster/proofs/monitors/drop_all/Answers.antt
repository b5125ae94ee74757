-- The node where the object is acts on its monitor.
use Rattle.std.proofs.Common.{ap}
use Rattle.std.specs.Prelude.{option_map}
use Rattle.ec_cluster.proofs.Acting.{acts_shown}
use Rattle.ec_cluster.proofs.Putting.{node_changes}
use Rattle.ec_cluster.proofs.monitors.drop_all.Goals as goal
use Rattle.ec_cluster.specs.Steps.{Nothing}
use Rattle.ec_monitors.specs.Monitors.{dropped}
use Rattle.ec_stores.specs.Node.{store_of}

pub drop_all-requires : goal.drop_all-requires
drop_all-requires c =
    c.requires.holds c.node_of-k.result (store_of c.at_mut.result.now) c.node_of-k.ensures (ap (option_map store_of) c.at_mut.ensures.value)

pub returns-clause-changes : goal.returns-clause-changes
returns-clause-changes c =
    node_changes c.args.cluster.now c.node_of-k.result c.at_mut.result.now c.drop_all.new.node Nothing c.at_mut.ensures.value
    c.drop_all.ensures.gets (λ j text ne x. x)

pub returns-clause-acts : goal.returns-clause-acts
returns-clause-acts c =
    acts_shown c.args.cluster.now c.args.oid c.node_of-k.result c.at_mut.result.now c.drop_all.new.node dropped c.drop_all.result
    c.requires.there
    c.node_of-k.ensures c.at_mut.ensures.value c.drop_all.ensures.acts
