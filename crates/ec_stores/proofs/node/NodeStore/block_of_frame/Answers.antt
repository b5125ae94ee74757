use Rattle.std.proofs.Common.{arith, refl, subst}
use Rattle.ec_world.specs.declared.key.Key.TheVariants.{Frame as OfFrame}
use Rattle.ec_stores.specs.Changes.{FirstBlock}
use Rattle.ec_stores.specs.Inside.{data_of}
use Rattle.ec_stores.specs.Node.{NodeData, owned_frame, store_of}
use Rattle.ec_stores.specs.Tables.{frame_in}
use Rattle.ec_stores.proofs.Comings.{found_is}
use Rattle.ec_stores.proofs.node.NodeStore.block_of_frame.Goals as goal

pub returns-clause-first : goal.returns-clause-first
returns-clause-first c =
    let node = data_of c.self.inside in
    let row = c.in-Some.row in
    let found = found_is owned_frame (frame_in node.frames c.args.process c.args.depth) row c.in-Some.ensures in
    subst (λ (n : NodeData). FirstBlock (store_of n) (OfFrame c.args.process c.args.depth) row.block) c.self.view_is
    (record { row = owned_frame row; there = found; first = refl })

pub returns-clause-small : goal.returns-clause-small
returns-clause-small c =
    let node = data_of c.self.inside in
    let row = c.in-Some.row in
    let found = found_is owned_frame (frame_in node.frames c.args.process c.args.depth) row c.in-Some.ensures in
    let within = c.self.invariant.owners.within (OfFrame c.args.process c.args.depth) (owned_frame row) row.block found
    (record { at = 0; is = refl }) in
    let few = c.self.invariant.whole.few_blocks in
    omega arith
