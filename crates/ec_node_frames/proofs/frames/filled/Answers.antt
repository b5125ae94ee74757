-- One word more.
use Rattle.std.proofs.Common.{◌+◌, get_or, ap, ◌∙◌, arith}
use Rattle.std.specs.Prelude.{slice_set}
use Rattle.std.proofs.lemmas.Option.{slice_get-get_or}
use Rattle.ec_machine_code.specs.Frames.{home_word}
use Rattle.ec_node_frames.proofs.Filling.{one_filled}
use Rattle.ec_node_frames.proofs.frames.filled.Goals as goal

pub loop-i-preserved : goal.loop-i-preserved
loop-i-preserved c =
    one_filled c.args.table.now c.args.held.now c.args.words.now c.args.heads.now c.loop-i.frame.items c.set_word.new.frame.items c.loop-i.i
    c.live_at-live.result
    (get_or c.args.words.now (c.loop-i.i + 1) 0) c.requires.few c.loop-i.invariant c.live_at-live.ensures
    (slice_get-get_or c.args.words.now (c.loop-i.i + 1) 0 (omega arith))
    (c.set_word.ensures
    ∙ ap (λ n. slice_set c.loop-i.frame.items n (get_or c.args.words.now (c.loop-i.i + 1) 0))
    (c.home_word-at.ensures ∙ ap home_word c.home.ensures))
