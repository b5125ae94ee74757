-- An owner goes, and nothing else changes.
use Rattle.ec_node_frames.proofs.Changes.{none_got}
use Rattle.ec_node_frames.proofs.Shown.{is_here}
use Rattle.ec_node_frames.proofs.frames.close_frame.Goals as goal
use Rattle.ec_world.specs.declared.key.Key.TheVariants.{Frame}
use Rattle.ec_stores.proofs.Putting.{closed_puts}
use Rattle.ec_stores.specs.Node.{store_of}
use Rattle.ec_things.specs.Texts.{NoTexts}

pub close-requires : goal.close-requires
close-requires c = is_here (store_of c.args.node.now) c.args.process c.args.depth c.requires

pub returns-clause-puts : goal.returns-clause-puts
returns-clause-puts c =
    closed_puts (store_of c.args.node.now) (store_of c.close.new.self) (Frame c.args.process c.args.depth) c.close.ensures

pub returns-clause-gets : goal.returns-clause-gets
returns-clause-gets c =
    none_got (store_of c.args.node.now) (store_of c.close.new.self) NoTexts (λ text h. h) c.close.ensures.rest
