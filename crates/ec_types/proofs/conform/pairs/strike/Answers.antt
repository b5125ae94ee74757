use Rattle.std.proofs.Common.{◌≡◌, ◌+◌, ◌*◌, arith}
use Rattle.ec_types.proofs.Striking.{passed_none, passed_columns, passed_later, struck_from}
use Rattle.ec_types.proofs.conform.pairs.strike.Goals as goal
use Rattle.ec_types.proofs.conform.pairs.strike.Goals.{then-branch, else-branch}

pub loop-block-init : goal.loop-block-init
loop-block-init c = passed_none _ _ _ _ _ _ c.requires.full (λ a b h i j k. omega arith)

pub loop-block-preserved : goal.loop-block-preserved
loop-block-preserved c = elim c.if-branch.branch [
  | then-branch w ↦
      rw w.struck-is (passed_later _ _ _ _ c.loop-block.invariant (rw w.if-branch.true at c.in_ok-strike_block.ensures))
  | else-branch w ↦
      let next : c.loop-block.block * 32 + 32 ≡ (c.loop-block.block + 1) * 32 = omega arith in
      rw (w.struck-is, ← next)
      (passed_columns _ _ _ _ c.loop-block.invariant (rw w.if-branch.false at c.in_ok-strike_block.ensures))
]

pub returns : goal.returns
returns c = struck_from (c.loop-block.block * 32) (omega arith) c.loop-block.invariant
