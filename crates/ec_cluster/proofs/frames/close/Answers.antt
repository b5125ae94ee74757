-- The last activation goes from its node.
use Rattle.std.proofs.Common.{ap, ◌∙◌, subst, None}
use Rattle.ec_cluster.proofs.Putting.{node_changes}
use Rattle.ec_cluster.specs.Cluster.{place}
use Rattle.ec_cluster.specs.Steps.{Nothing}
use Rattle.ec_cluster.proofs.Stacks.{frame_went}
use Rattle.ec_cluster.proofs.frames.close.Goals as goal
use Rattle.ec_world.specs.declared.key.Key.TheVariants.{Frame}
use Rattle.ec_stores.specs.Node.{store_of}
use Rattle.ec_things.specs.Things.{Puts}

pub returns-clause-changes : goal.returns-clause-changes
returns-clause-changes c =
    node_changes c.args.cluster.now c.node_of-k.result c.at_mut.result.now c.close_frame.new.node Nothing c.at_mut.ensures.value
    c.close_frame.ensures.gets (λ j text ne x. x)

pub returns-clause-shows : goal.returns-clause-shows
returns-clause-shows c = λ w proc below a status shows is e depth own.
    frame_went c.args.cluster.now c.node_of-k.result c.at_mut.result.now c.close_frame.new.node w c.at_mut.ensures.value shows
    c.args.process proc is status below a e (ap (place c.args.cluster.now) own ∙ c.node_of-k.ensures)
    (subst (λ x. Puts (store_of c.at_mut.result.now) (store_of c.close_frame.new.node) (Frame c.args.process x) None) depth
    c.close_frame.ensures.puts)
