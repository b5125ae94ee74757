-- The node where the object is acts on its monitor.
use Rattle.std.proofs.Common.{ap}
use Rattle.std.specs.Prelude.{option_map}
use Rattle.ec_cluster.proofs.Acting.{acts_shown}
use Rattle.ec_cluster.proofs.Putting.{node_changes}
use Rattle.ec_cluster.proofs.monitors.wait.Goals as goal
use Rattle.ec_cluster.specs.Steps.{Nothing}
use Rattle.ec_monitors.specs.Monitors.{waited}
use Rattle.ec_stores.specs.Node.{store_of}

pub wait-requires : goal.wait-requires
wait-requires c =
    c.requires.waits c.node_of-k.result (store_of c.at_mut.result.now) c.node_of-k.ensures (ap (option_map store_of) c.at_mut.ensures.value)

pub returns-clause-changes : goal.returns-clause-changes
returns-clause-changes c =
    node_changes c.args.cluster.now c.node_of-k.result c.at_mut.result.now c.wait.new.node Nothing c.at_mut.ensures.value
    c.wait.ensures.gets (λ j text ne x. x)

pub returns-clause-acts : goal.returns-clause-acts
returns-clause-acts c =
    acts_shown c.args.cluster.now c.args.oid c.node_of-k.result c.at_mut.result.now c.wait.new.node (λ m. waited m c.args.condition)
    c.wait.result c.requires.there
    c.node_of-k.ensures c.at_mut.ensures.value c.wait.ensures.acts
