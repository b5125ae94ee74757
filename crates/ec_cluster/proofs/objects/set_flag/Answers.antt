-- One object changes at its node.
use Rattle.ec_cluster.proofs.Changing.{object_step}
use Rattle.ec_cluster.proofs.Putting.{node_changes}
use Rattle.ec_cluster.proofs.objects.set_flag.Goals as goal
use Rattle.ec_cluster.specs.Steps.{Nothing}
use Rattle.ec_world.specs.declared.object.ObjectRec.{ObjectRec}

pub returns-clause-changes : goal.returns-clause-changes
returns-clause-changes c =
    node_changes c.args.cluster.now c.node_of-k.result c.at_mut.result.now c.set_flag.new.node Nothing c.at_mut.ensures.value
    c.set_flag.ensures.gets (λ j text ne x. x)

pub returns-clause-shows : goal.returns-clause-shows
returns-clause-shows c = λ w shows.
    object_step c.args.cluster.now c.args.oid c.node_of-k.result c.at_mut.result.now c.set_flag.new.node c.node_of-k.ensures
    c.at_mut.ensures.value (λ (o : ObjectRec). record o { fixed = c.args.fixed }) c.set_flag.ensures.puts c.requires w shows
