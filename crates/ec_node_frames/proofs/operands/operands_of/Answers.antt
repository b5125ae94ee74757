-- What is read is what the action takes.
use Rattle.std.proofs.Common.{List, sym, subst}
use Rattle.ec_activations.specs.Frames.{value_in}
use Rattle.ec_code.specs.declared.code.Live.{Live}
use Rattle.ec_node_frames.proofs.Carrying.{values_of_held}
use Rattle.ec_node_frames.proofs.Reading.{operands_read, same_read}
use Rattle.ec_node_frames.proofs.Shown.{is_here, shown_here}
use Rattle.ec_node_frames.proofs.operands.operands_of.Goals as goal
use Rattle.ec_node_frames.specs.Reading.{AreRead}
use Rattle.ec_stores.specs.Node.{store_of}

pub block_of_frame-block-requires : goal.block_of_frame-block-requires
block_of_frame-block-requires c =
    let has = c.requires in
    let s = store_of c.args.node.now in
    is_here s c.args.process c.args.depth
    (shown_here s has.parts has.homes c.args.process c.args.depth has.activation has.acts.here.shown)

pub values_at-requires : goal.values_at-requires
values_at-requires c =
    let s = store_of c.args.node.now in
    let has = c.requires in
    let a = has.activation in (
      λ l. value_in has.parts a l.variable,
      subst (λ (ls : List Live). AreRead s c.args.table.now c.block_of_frame-block.result ls (λ l. value_in has.parts a l.variable))
          (sym c.as_slice.ensures)
          (operands_read s c.args.table.now c.args.entry.now c.args.process c.args.depth c.block_of_frame-block.result
          c.block_of_frame-block.ensures.first has.declared has.parts has.homes has.tables a has.acts),
    )

pub returns : goal.returns
returns c = λ d p homes tables a acts.
    let s = store_of c.args.node.now in
    let block = c.block_of_frame-block.result in
    same_read s c.args.table.now block c.as_slice.result.now c.args.entry.now.operands (λ l. value_in p a l.variable) _ c.values_at.result
    c.as_slice.ensures
    (operands_read s c.args.table.now c.args.entry.now c.args.process c.args.depth block c.block_of_frame-block.ensures.first d p homes
    tables a acts)
    (values_of_held p a c.args.entry.now.operands) c.values_at.ensures
