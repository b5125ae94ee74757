use Rattle.std.proofs.Common.{◌≡◌, ℕ, List, None, refl, sym, ◌∙◌, subst}
use Rattle.ec_world.specs.declared.key.Key.TheVariants.{Object as OfObject}
use Rattle.ec_stores.specs.Changes.{PlacedObject}
use Rattle.ec_stores.specs.Inside.{data_of}
use Rattle.ec_stores.specs.Node.{Laid, NodeData, row_of, store_of}
use Rattle.ec_stores.specs.declared.rows.ObjectRow.{ObjectRow}
use Rattle.ec_stores.proofs.Comings.{created, laid_created}
use Rattle.ec_stores.proofs.Placing.{laid_filled, laid_taken, with_owners}
use Rattle.ec_stores.proofs.node.NodeStore.create.Goals as goal

pub invariant_of-self : goal.invariant_of-self
invariant_of-self c =
    let taken = c.in_err-blocks.ensures.err in
    laid_taken (data_of c.self.inside) c.take_filled.new.memory c.self.invariant taken.0 taken.1

pub invariant_of-self-in_err-insert : goal.invariant_of-self-in_err-insert
invariant_of-self-in_err-insert c =
    let node = data_of c.self.inside in
    subst (λ (os : List (ℕ × ObjectRow)). Laid (with_owners node c.take_filled.new.memory os node.frames))
    (sym c.in_err-insert.ensures.err)
    (laid_filled node c.take_filled.new.memory c.self.invariant c.in_ok-blocks.blocks c.args.words.now c.in_ok-blocks.ensures.filled)

pub invariant_of-self-2 : goal.invariant_of-self-2
invariant_of-self-2 c =
    let row : ObjectRow = record {
      blocks = c.in_ok-blocks.blocks;
      size = c.args.size;
      class = c.args.class;
      fixed = c.args.fixed;
      monitor = c.args.monitor;
    } in
    laid_created (data_of c.self.inside) c.take_filled.new.memory c.self.inside.objects c.insert.new.self c.args.oid row c.args.words.now
    c.self.invariant refl
    (subst (λ (n : NodeData). row_of n (OfObject c.args.oid) ≡ None) (sym c.self.view_is) c.requires.new)
    c.in_ok-insert.ensures.updates c.in_ok-blocks.ensures.filled (c.in_ok-blocks.ensures.many ∙ c.class_blocks-count.ensures)
    c.requires.short

pub returns : goal.returns
returns c =
    let node = data_of c.self.inside in
    let row : ObjectRow = record {
      blocks = c.in_ok-blocks.blocks;
      size = c.args.size;
      class = c.args.class;
      fixed = c.args.fixed;
      monitor = c.args.monitor;
    } in
    subst (λ (n : NodeData). PlacedObject (store_of n)
    (store_of (with_owners node c.take_filled.new.memory c.insert.new.self.entries node.frames)) c.args.oid c.args.class c.args.size
    c.args.fixed c.args.monitor c.args.words.now) c.self.view_is
    (created node c.take_filled.new.memory c.self.inside.objects c.insert.new.self c.args.oid row c.args.words.now
    c.self.invariant refl
    (subst (λ (n : NodeData). row_of n (OfObject c.args.oid) ≡ None) (sym c.self.view_is) c.requires.new)
    c.in_ok-insert.ensures.updates c.in_ok-blocks.ensures.filled (c.in_ok-blocks.ensures.many ∙ c.class_blocks-count.ensures)
    c.requires.short)
