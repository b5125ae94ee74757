use Rattle.ec_meaning.proofs.Lines.{LinesTo}
use Rattle.ec_meaning.proofs.source.lines_of.Given as goal

abbrev pub invariant-loop-b : goal.invariant-loop-b
invariant-loop-b l = LinesTo l.text l.b-index l.lines.items l.line
