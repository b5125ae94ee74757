-- The node where the object is acts on its monitor.
use Rattle.std.proofs.Common.{ap}
use Rattle.std.specs.Prelude.{option_map}
use Rattle.ec_cluster.proofs.Acting.{acts_shown}
use Rattle.ec_cluster.proofs.Answered.{if_ok, on_ok}
use Rattle.ec_cluster.proofs.Putting.{node_changes}
use Rattle.ec_cluster.proofs.monitors.enter.Goals as goal
use Rattle.ec_cluster.specs.Steps.{Nothing}
use Rattle.ec_monitors.specs.Monitors.{entered}
use Rattle.ec_stores.specs.Node.{store_of}

pub returns-clause-changes : goal.returns-clause-changes
returns-clause-changes c = on_ok c.enter.result
    (λ gets. node_changes c.args.cluster.now c.node_of-k.result c.at_mut.result.now c.enter.new.node Nothing c.at_mut.ensures.value gets
    (λ j text ne x. x))
    c.enter.ensures.gets

pub returns-clause-acts : goal.returns-clause-acts
returns-clause-acts c = if_ok c.enter.result
    (λ e acts. acts_shown c.args.cluster.now c.args.oid c.node_of-k.result c.at_mut.result.now c.enter.new.node
    (λ m. entered m c.args.process) e c.requires.there c.node_of-k.ensures c.at_mut.ensures.value acts)
    c.enter.ensures.acts
