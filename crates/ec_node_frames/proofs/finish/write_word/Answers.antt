-- A word is written, or none.
use Rattle.ec_node_frames.proofs.Shown.{owns_word}
use Rattle.ec_node_frames.proofs.finish.write_word.Goals as goal
use Rattle.ec_stores.specs.Node.{store_of}

pub set_frame_word-requires : goal.set_frame_word-requires
set_frame_word-requires c = owns_word (store_of c.args.node.now) c.args.process c.args.depth c.args.at c.requires c.if-at-ge128.false
