-- One node's own object more.
use Rattle.std.proofs.Common.{length, replicate, arith, subst}
use Rattle.ec_cluster.specs.Located.{nodes_made}
use Rattle.ec_acts.proofs.Freshly.{fresh_set}
use Rattle.ec_acts.proofs.Going.{can_make_node, one_node_more}
use Rattle.ec_acts.proofs.Rooms.{can_hold}
use Rattle.ec_acts.proofs.load.with_nodes.Goals as goal
use Rattle.ec_acts.specs.Loading.{IsSet}
use Rattle.ec_acts.specs.Worlds.{with_objects}
use Rattle.ec_world.specs.Run.{node_object}

pub fresh_nodes-requires : goal.fresh_nodes-requires
fresh_nodes-requires c = can_hold c.args.parts c.args.images c.args.specs.now c.requires.can c.requires.room

pub loop-k-init : goal.loop-k-init
loop-k-init c =
    fresh_set c.args.parts c.args.images c.args.specs.now c.in_ok-nodes.nodes c.new.result c.in_ok-nodes.ensures c.new.ensures

pub make_at-requires : goal.make_at-requires
make_at-requires c =
    can_make_node c.args.parts c.args.images c.args.specs.now c.loop-k.k c.loop-k.cluster c.loop-k.invariant (omega arith)

pub loop-k-preserved : goal.loop-k-preserved
loop-k-preserved c =
    let p = c.args.parts in
    let specs = c.args.specs.now in
    one_node_more p c.args.images specs c.loop-k.k c.make_at.new.cluster
    (c.in_ok-make_at.ensures p c.args.images specs (with_objects (length specs) p (replicate c.loop-k.k node_object))
    (nodes_made c.loop-k.k) c.loop-k.invariant)

pub returns : goal.returns
returns c =
    let p = c.args.parts in
    let specs = c.args.specs.now in
    subst (λ k. IsSet p c.args.images specs (with_objects (length specs) p (replicate k node_object)) (nodes_made k) c.loop-k.cluster)
    (omega arith) c.loop-k.invariant
