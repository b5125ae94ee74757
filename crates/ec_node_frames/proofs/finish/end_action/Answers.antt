-- One heading is written.
use Rattle.std.proofs.Common.{lit<}
use Rattle.ec_node_frames.proofs.Shown.{frame_kept, owns_word}
use Rattle.ec_node_frames.proofs.finish.end_action.Goals as goal
use Rattle.ec_world.specs.declared.key.Key.TheVariants.{Frame}
use Rattle.ec_stores.specs.Node.{store_of}

pub set_frame_word-requires : goal.set_frame_word-requires
set_frame_word-requires c = owns_word (store_of c.args.node.now) c.args.process c.args.depth 4 c.requires (lit< tt)

pub returns-clause-here : goal.returns-clause-here
returns-clause-here c =
    frame_kept (store_of c.args.node.now) (store_of c.set_frame_word.new.self) c.args.process c.args.depth
    (c.set_frame_word.ensures.writes.rows (Frame c.args.process c.args.depth)) c.requires
