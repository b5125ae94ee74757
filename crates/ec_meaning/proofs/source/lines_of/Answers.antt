use Rattle.std.proofs.Common.{◌+◌, sym, ap, ◌∙◌, arith}
use Rattle.ec_meaning.proofs.Lines.{lines_next, line_behind, line_same}
use Rattle.ec_meaning.proofs.source.lines_of.Goals.{then-b-eq10, else-b-eq10}
use Rattle.ec_meaning.proofs.source.lines_of.Goals as goal

pub loop-b-preserved : goal.loop-b-preserved
loop-b-preserved c =
    let text = c.args.text.now in
    let at = c.loop-b.b-index in
    let known = c.loop-b.invariant in
    elim c.if-b-eq10.branch [
      | then-b-eq10 w ↦
          lines_next text at c.loop-b.lines.items c.loop-b.line c.if-b-eq10.line c.push-in-loop-b.new.self.items known
          (w.line-is ∙ ap (λ n. n + 1) known.last ∙ sym (line_behind text at c.loop-b-test.true w.if-b-eq10.true))
          (omega (arith, known.low, w.line-is))
          c.in_ok-push-2.ensures.items
      | else-b-eq10 w ↦
          lines_next text at c.loop-b.lines.items c.loop-b.line c.if-b-eq10.line c.push-in-loop-b.new.self.items known
          (w.line-is ∙ known.last ∙ sym (line_same text at c.loop-b-test.true w.if-b-eq10.false)) (omega (arith, known.low, w.line-is))
          c.in_ok-push-2.ensures.items
    ]
