use Rattle.std.proofs.Common.{arith}
use Rattle.ec_types.proofs.Striking.{passed_none, passed_rows, passed_later}
use Rattle.ec_types.proofs.conform.pairs.strike_block.Goals as goal
use Rattle.ec_types.proofs.conform.pairs.strike_block.Goals.{then-branch, else-branch}

pub loop-s-init : goal.loop-s-init
loop-s-init c = passed_none _ _ _ _ _ _ c.requires.full (λ a b h i j k. omega arith)

pub loop-s-preserved : goal.loop-s-preserved
loop-s-preserved c = elim c.if-branch.branch [
  | then-branch w ↦
      rw w.struck-is (passed_later _ _ _ _ c.loop-s.invariant (rw w.if-branch.true at c.in_ok-strike_row.ensures))
  | else-branch w ↦
      rw w.struck-is (passed_rows _ _ _ _ c.loop-s.invariant (rw w.if-branch.false at c.in_ok-strike_row.ensures))
]
