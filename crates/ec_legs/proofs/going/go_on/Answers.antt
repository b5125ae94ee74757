-- The activation is at the node of its own object, where it goes on.
use Rattle.std.proofs.Common.{◌≡◌, Some, length, sym, ap, ◌∙◌, subst}
use Rattle.ec_cluster.specs.Cluster.{place}
use Rattle.ec_cluster.specs.Images.{image_of}
use Rattle.ec_cluster.specs.Steps.{HasPlace}
use Rattle.ec_legs.proofs.Counting.{has_run, is_few}
use Rattle.ec_legs.proofs.Native.{ran_natively}
use Rattle.ec_legs.proofs.Placed.{depth_is, has_frame, is_there, its_leg, own_is, own_object, own_object_is, own_place, some_steps}
use Rattle.ec_legs.proofs.Mirrored.{goes_mirrored}
use Rattle.ec_legs.proofs.Showing.{place_of}
use Rattle.ec_legs.proofs.going.go_on.Goals as goal
use Rattle.ec_legs.specs.Nodes.{RunsOn}
use Rattle.ec_stores.specs.Node.{store_of}

pub unreachable-requires : goal.unreachable-requires
unreachable-requires c =
    let r = c.requires in
    let depth = depth_is r.declared c.args.system.now r.world c.args.process r.below r.top r.goes c.at.result.now c.at.ensures in
    has_frame r.declared c.args.system.now r.world c.args.process r.below r.top r.goes _ depth c.in_default.ensures.none

pub node_of-k-requires : goal.node_of-k-requires
node_of-k-requires c =
    let r = c.requires in
    let depth = depth_is r.declared c.args.system.now r.world c.args.process r.below r.top r.goes c.at.result.now c.at.ensures in
    let own = own_is r.declared c.args.system.now r.world c.args.process r.below r.top r.goes _ c.in-Some.headings depth
    c.in-Some.ensures.some in
    subst (λ x. HasPlace c.args.system.now.cluster x) (sym own)
    (_, own_place r.declared c.args.system.now r.world c.args.process r.below r.top r.goes)

pub at_mut-node-requires : goal.at_mut-node-requires
at_mut-node-requires c =
    let r = c.requires in
    let depth = depth_is r.declared c.args.system.now r.world c.args.process r.below r.top r.goes c.at.result.now c.at.ensures in
    let own = own_is r.declared c.args.system.now r.world c.args.process r.below r.top r.goes _ c.in-Some.headings depth
    c.in-Some.ensures.some in
    is_there r.declared c.args.system.now r.world c.args.process r.below r.top r.goes c.node_of-k.result
    (ap (place c.args.system.now.cluster) (sym own) ∙ c.node_of-k.ensures)

pub run_here-requires : goal.run_here-requires
run_here-requires c =
    let r = c.requires in
    let depth = depth_is r.declared c.args.system.now r.world c.args.process r.below r.top r.goes c.at.result.now c.at.ensures in
    let own = own_is r.declared c.args.system.now r.world c.args.process r.below r.top r.goes _ c.in-Some.headings depth
    c.in-Some.ensures.some in
    some_steps r.declared c.args.system.now r.world c.args.process r.below r.top r.goes c.node_of-k.result c.at_mut-node.result.now _
    (ap (place c.args.system.now.cluster) (sym own) ∙ c.node_of-k.ensures) c.at_mut-node.ensures.value depth

pub returns-clause-mirrors : goal.returns-clause-mirrors
returns-clause-mirrors c = λ d w below top g.
    let system = c.args.system.now in
    let n = c.at_mut-node.result.now in
    let k = c.node_of-k.result in
    let depth = depth_is d system w c.args.process below top g c.at.result.now c.at.ensures in
    let own = own_is d system w c.args.process below top g _ c.in-Some.headings depth c.in-Some.ensures.some in
    let at : place system.cluster top.own ≡ Some k = ap (place system.cluster) (sym own) ∙ c.node_of-k.ensures in
    let o = own_object d system w c.args.process below top g in
    let number = place_of w.common.objects top.own o (own_object_is d system w c.args.process below top g) in
    goes_mirrored system k n c.run_here.new.node w c.at_mut-node.ensures.value g.runs.mirrors c.args.process below top g.is at number.0
    number.1 o number.2 (image_of system.cluster.images (store_of n).kind).code c.run_here.result
    (its_leg d system w c.args.process below top g k n c.run_here.new.node _ c.run_here.result at c.at_mut-node.ensures.value depth
    c.run_here.ensures.leg)

pub returns-clause-counts : goal.returns-clause-counts
returns-clause-counts c = λ d w below top g.
    let system = c.args.system.now in
    let n = c.at_mut-node.result.now in
    let k = c.node_of-k.result in
    let depth = depth_is d system w c.args.process below top g c.at.result.now c.at.ensures in
    let own = own_is d system w c.args.process below top g _ c.in-Some.headings depth c.in-Some.ensures.some in
    let at : place system.cluster top.own ≡ Some k = ap (place system.cluster) (sym own) ∙ c.node_of-k.ensures in
    has_run system.cluster k n c.run_here.new.node c.at_mut-node.ensures.value w.common top at c.args.process (length below)
    c.run_here.result
    (its_leg d system w c.args.process below top g k n c.run_here.new.node _ c.run_here.result at c.at_mut-node.ensures.value depth
    c.run_here.ensures.leg)

pub returns-clause-few : goal.returns-clause-few
returns-clause-few c = λ d w below top g.
    let system = c.args.system.now in
    let n = c.at_mut-node.result.now in
    let k = c.node_of-k.result in
    let depth = depth_is d system w c.args.process below top g c.at.result.now c.at.ensures in
    let own = own_is d system w c.args.process below top g _ c.in-Some.headings depth c.in-Some.ensures.some in
    let at : place system.cluster top.own ≡ Some k = ap (place system.cluster) (sym own) ∙ c.node_of-k.ensures in
    is_few system.cluster k n c.run_here.new.node c.at_mut-node.ensures.value w.common top at c.args.process (length below)
    c.run_here.result
    (its_leg d system w c.args.process below top g k n c.run_here.new.node _ c.run_here.result at c.at_mut-node.ensures.value depth
    c.run_here.ensures.leg)

pub returns-clause-native : goal.returns-clause-native
returns-clause-native c = λ d w below top g.
    let system = c.args.system.now in
    let n = c.at_mut-node.result.now in
    let k = c.node_of-k.result in
    let depth = depth_is d system w c.args.process below top g c.at.result.now c.at.ensures in
    let own = own_is d system w c.args.process below top g _ c.in-Some.headings depth c.in-Some.ensures.some in
    ran_natively system.cluster k n c.run_here.new.node c.at_mut-node.ensures.value top.own
    (ap (place system.cluster) (sym own) ∙ c.node_of-k.ensures) c.args.process (length below) c.run_here.result
    (subst (λ x. RunsOn n.kind system.cluster.images n c.run_here.new.node c.args.process x c.run_here.result) depth
    c.run_here.ensures.native)
