-- The headings' words are those of the activation that is shown.
use Rattle.ec_node_frames.proofs.Shown.{headings_are, is_here}
use Rattle.ec_node_frames.proofs.frames.headings_of.Goals as goal
use Rattle.ec_stores.specs.Node.{store_of}
use Rattle.ec_world.specs.declared.key.Key.TheVariants.{Frame}

pub block_of_frame-block-requires : goal.block_of_frame-block-requires
block_of_frame-block-requires c = is_here (store_of c.args.node.now) c.args.process c.args.depth c.requires

pub word_in-operation-requires-clause-owned : goal.word_in-operation-requires-clause-owned
word_in-operation-requires-clause-owned c = (Frame c.args.process c.args.depth, c.block_of_frame-block.ensures.first)

pub word_in-stop-requires-clause-owned : goal.word_in-stop-requires-clause-owned
word_in-stop-requires-clause-owned c = (Frame c.args.process c.args.depth, c.block_of_frame-block.ensures.first)

pub word_in-pending-requires-clause-owned : goal.word_in-pending-requires-clause-owned
word_in-pending-requires-clause-owned c = (Frame c.args.process c.args.depth, c.block_of_frame-block.ensures.first)

pub word_in-own-requires-clause-owned : goal.word_in-own-requires-clause-owned
word_in-own-requires-clause-owned c = (Frame c.args.process c.args.depth, c.block_of_frame-block.ensures.first)

pub returns : goal.returns
returns c = λ p homes a shown.
    let key = Frame c.args.process c.args.depth in
    let first = c.block_of_frame-block.ensures.first in
    headings_are (store_of c.args.node.now) p homes c.args.process c.args.depth a shown c.word_in-operation.result
    c.word_in-stop.result c.word_in-pending.result c.word_in-own.result (c.word_in-operation.ensures key first)
    (c.word_in-stop.ensures key first) (c.word_in-pending.ensures key first) (c.word_in-own.ensures key first)
