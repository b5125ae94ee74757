use Rattle.ec_types.proofs.Striking.{follows_on}
use Rattle.ec_types.proofs.conform.pairs.check_row.Goals as goal
use Rattle.ec_types.proofs.conform.pairs.check_row.Goals.{then-a-m+then-b-m+in_ok-check, else-a-m}

pub loop-b-preserved : goal.loop-b-preserved
loop-b-preserved c = elim c.if-a-m.branch [
  | then-a-m+then-b-m+in_ok-check w ↦ rw (w.pairs-is, w.struck-is) (follows_on c.loop-b.invariant w.in_ok-check.ensures)
  | else-a-m w ↦ rw (w.pairs-is, w.struck-is) c.loop-b.invariant
]
