use Rattle.std.proofs.Common.{◌∙◌}
use Rattle.std.specs.Prelude.{slice_index}
use Rattle.mips_delay.proofs.Written.{words_none, words_one}
use Rattle.mips_delay.specs.Choice.{set_at}
use Rattle.mips_delay.specs.Places.{IsKept}
use Rattle.mips_waits.proofs.words.put_words.Goals as goal
use Rattle.mips_waits.proofs.words.put_words.Goals.{in-Some+in_ok-push, in_default}

pub loop-i-preserved : goal.loop-i-preserved
loop-i-preserved c =
    let skips = set_at c.args.moves.now.fills.items in
    let old = c.args.words.now in
    let new = c.loop-i.new in
    let inv = c.loop-i.invariant in
    elim c.match-word_for.branch [
      | in-Some+in_ok-push w ↦
          words_one (λ k v. IsKept skips k (slice_index old k) v) skips c.loop-i.i new inv.0 inv.1 w.in-Some.word w.in-Some.ensures
          c.match-word_for.new (w.new-is ∙ w.in_ok-push.ensures.ok)
      | in_default w ↦
          words_none (λ k v. IsKept skips k (slice_index old k) v) skips c.loop-i.i new inv.0 inv.1 w.in_default.ensures
          c.match-word_for.new w.new-is
    ]
