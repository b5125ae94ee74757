-- The block of one activation more.
use Rattle.std.proofs.Common.{arith}
use Rattle.ec_packing.proofs.Items.{all_are, more_are}
use Rattle.ec_packing.proofs.blocks.look_at_blocks.Goals as goal
use Rattle.ec_packing.specs.Blocks.{HasSmallBlock}
use Rattle.ec_stores.specs.Node.{store_of}

pub loop-part-preserved : goal.loop-part-preserved
loop-part-preserved c =
    more_are (HasSmallBlock (store_of c.args.node.now)) c.args.parts.now c.loop-part.part-index c.part-item.result c.loop-part.invariant
    c.part-item.is (record {
      block = c.block_of_frame-block.result;
      first = c.block_of_frame-block.ensures.first;
      small = c.block_of_frame-block.ensures.small;
    })

pub returns-clause-blocks : goal.returns-clause-blocks
returns-clause-blocks c =
    all_are (HasSmallBlock (store_of c.args.node.now)) c.args.parts.now c.loop-part.part-index c.loop-part.invariant (omega arith)
