use Rattle.std.proofs.Common.{subst}
use Rattle.ec_world.specs.declared.key.Key.TheVariants.{Frame as OfFrame}
use Rattle.ec_stores.specs.Changes.{Closed}
use Rattle.ec_stores.specs.Inside.{data_of}
use Rattle.ec_stores.specs.Node.{NodeData, owned_frame, store_of}
use Rattle.ec_stores.specs.Tables.{frame_in}
use Rattle.ec_stores.proofs.Comings.{found_is, laid_frame_closed, frame_closed}
use Rattle.ec_stores.proofs.Placing.{its_in, its_once, its_taken, with_owners}
use Rattle.ec_stores.proofs.node.NodeStore.close.Goals as goal

pub give_list-requires-clause-blocks_in : goal.give_list-requires-clause-blocks_in
give_list-requires-clause-blocks_in c =
    let node = data_of c.self.inside in
    let row = c.in-Some.row in
    let found = found_is owned_frame (frame_in c.self.inside.frames c.args.process c.args.depth) row c.in-Some.ensures.row in
    its_in node c.self.invariant (OfFrame c.args.process c.args.depth) (owned_frame row) found

pub give_list-requires-clause-once : goal.give_list-requires-clause-once
give_list-requires-clause-once c =
    let node = data_of c.self.inside in
    let row = c.in-Some.row in
    let found = found_is owned_frame (frame_in c.self.inside.frames c.args.process c.args.depth) row c.in-Some.ensures.row in
    its_once node c.self.invariant (OfFrame c.args.process c.args.depth) (owned_frame row) found

pub give_list-requires-clause-taken : goal.give_list-requires-clause-taken
give_list-requires-clause-taken c =
    let node = data_of c.self.inside in
    let row = c.in-Some.row in
    let found = found_is owned_frame (frame_in c.self.inside.frames c.args.process c.args.depth) row c.in-Some.ensures.row in
    its_taken node c.self.invariant (OfFrame c.args.process c.args.depth) (owned_frame row) found

pub invariant_of-self : goal.invariant_of-self
invariant_of-self c =
    let node = data_of c.self.inside in
    laid_frame_closed node c.give_list.new.memory c.remove.new.self c.args.process c.args.depth c.in-Some.row
    c.self.invariant
    c.in-Some.ensures.row c.remove.ensures.removed
    (c.give_list.ensures)

pub returns : goal.returns
returns c =
    let node = data_of c.self.inside in
    subst (λ (n : NodeData). Closed (store_of n)
    (store_of (with_owners node c.give_list.new.memory node.objects c.remove.new.self)) (OfFrame c.args.process c.args.depth))
    c.self.view_is
    (frame_closed node c.give_list.new.memory c.remove.new.self c.args.process c.args.depth c.in-Some.row
    c.self.invariant
    c.in-Some.ensures.row c.remove.ensures.removed
    (c.give_list.ensures))
