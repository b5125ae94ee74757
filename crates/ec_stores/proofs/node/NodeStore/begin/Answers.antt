use Rattle.std.proofs.Common.{◌≡◌, ℕ, List, None, sym, subst}
use Rattle.ec_world.specs.declared.key.Key.TheVariants.{Frame as OfFrame}
use Rattle.ec_stores.specs.Changes.{PlacedFrame}
use Rattle.ec_stores.specs.Inside.{data_of}
use Rattle.ec_stores.specs.Node.{Laid, NodeData, row_of, store_of}
use Rattle.ec_stores.specs.declared.rows.FrameRow.{FrameRow}
use Rattle.ec_stores.proofs.Comings.{begun, laid_begun}
use Rattle.ec_stores.proofs.Numbers.{one_item}
use Rattle.ec_stores.proofs.Placing.{laid_filled, laid_taken, with_owners}
use Rattle.ec_stores.proofs.node.NodeStore.begin.Goals as goal

pub invariant_of-self : goal.invariant_of-self
invariant_of-self c =
    let taken = c.in_err-blocks.ensures.err in
    laid_taken (data_of c.self.inside) c.take_filled.new.memory c.self.invariant taken.0 taken.1

pub invariant_of-self-in_err-add : goal.invariant_of-self-in_err-add
invariant_of-self-in_err-add c =
    let node = data_of c.self.inside in
    subst (λ (fs : List ((ℕ × ℕ) × FrameRow)). Laid (with_owners node c.take_filled.new.memory node.objects fs))
    (sym c.in_err-add.ensures.err)
    (laid_filled node c.take_filled.new.memory c.self.invariant c.in_ok-blocks.blocks c.args.words.now c.in_ok-blocks.ensures.filled)

pub invariant_of-self-2 : goal.invariant_of-self-2
invariant_of-self-2 c =
    laid_begun (data_of c.self.inside) c.take_filled.new.memory c.add.new.self c.args.process c.args.depth c.args.own
    c.at-block.result.now c.in_ok-blocks.blocks c.args.words.now c.self.invariant
    (subst (λ (n : NodeData). row_of n (OfFrame c.args.process c.args.depth) ≡ None) (sym c.self.view_is) c.requires.new)
    c.in_ok-add.ensures.added c.in_ok-blocks.ensures.filled
    (one_item c.in_ok-blocks.blocks c.at-block.result.now c.in_ok-blocks.ensures.many c.at-block.ensures) c.requires.short

pub returns : goal.returns
returns c =
    let node = data_of c.self.inside in
    subst (λ (n : NodeData). PlacedFrame (store_of n)
    (store_of (with_owners node c.take_filled.new.memory node.objects c.add.new.self)) c.args.process c.args.depth c.args.own
    c.args.words.now) c.self.view_is
    (begun node c.take_filled.new.memory c.add.new.self c.args.process c.args.depth c.args.own
    c.at-block.result.now c.in_ok-blocks.blocks c.args.words.now c.self.invariant
    (subst (λ (n : NodeData). row_of n (OfFrame c.args.process c.args.depth) ≡ None) (sym c.self.view_is) c.requires.new)
    c.in_ok-add.ensures.added c.in_ok-blocks.ensures.filled
    (one_item c.in_ok-blocks.blocks c.at-block.result.now c.in_ok-blocks.ensures.many c.at-block.ensures) c.requires.short)
