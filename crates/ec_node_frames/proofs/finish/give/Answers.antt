-- Three steps.
use Rattle.std.proofs.Common.{◌<◌, ap, ◌∙◌, subst}
use Rattle.ec_machine_code.specs.Frames.{home_word}
use Rattle.ec_node_frames.proofs.Shown.{frame_kept}
use Rattle.ec_node_frames.proofs.finish.give.Goals as goal
use Rattle.ec_world.specs.declared.key.Key.TheVariants.{Frame}
use Rattle.ec_stores.specs.Changes.{WritesWord}
use Rattle.ec_stores.specs.Node.{store_of}

pub end_action-requires : goal.end_action-requires
end_action-requires c =
    frame_kept (store_of c.args.node.now) (store_of c.word_for.new.node) c.args.process c.args.depth
    (c.in_ok-word.ensures.only.rows (Frame c.args.process c.args.depth)) c.requires.here

pub returns-clause-gives : goal.returns-clause-gives
returns-clause-gives c = record {
  made = store_of c.word_for.new.node;
  ended = store_of c.end_action.new.node;
  word = c.in_ok-word.word;
  has = c.in_ok-word.ensures;
  ends = c.end_action.ensures.writes;
  writes = subst
      (λ n. n < 128 →
      WritesWord (store_of c.end_action.new.node) (store_of c.write_word.new.node) (Frame c.args.process c.args.depth) n c.in_ok-word.word)
      (c.home_word-at.ensures ∙ ap home_word c.home.ensures) c.write_word.ensures.writes;
  rest = c.write_word.ensures.rest;
  tidy = c.write_word.ensures.tidy;
}
