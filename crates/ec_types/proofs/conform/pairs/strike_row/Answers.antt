use Rattle.std.proofs.Common.{◌+◌, arith, refl}
use Rattle.ec_types.proofs.Striking.{passed_none, passed_one, passed_columns, passed_struck, passed_wide}
use Rattle.ec_types.proofs.conform.pairs.strike_row.Goals as goal
use Rattle.ec_types.proofs.conform.pairs.strike_row.Goals.{then-is_wrong+in_ok-follow, else-is_wrong}

pub loop-t-init : goal.loop-t-init
loop-t-init c = passed_none _ _ _ _ _ _ c.requires.full (λ a b h i j k. omega arith)

pub loop-t-preserved : goal.loop-t-preserved
loop-t-preserved c = elim c.if-is_wrong.branch [
  | then-is_wrong+in_ok-follow w ↦
      rw (w.pairs-is, w.struck-is) (passed_struck _ _ _ _ c.loop-t.invariant w.in_ok-follow.ensures)
  | else-is_wrong w ↦
      rw (w.pairs-is, w.struck-is)
      (passed_columns _ _ _ _ c.loop-t.invariant
      (passed_one _ _ c.args.s c.loop-t.t c.loop-t.invariant.full
      (rw (c.as_slice.ensures.value, c.compared-m.ensures, c.len.ensures) at (w.if-is_wrong.ensures.right refl))))
]

pub returns : goal.returns
returns c = passed_wide (c.args.from + 32) c.loop-t.invariant (λ b k small. omega arith)
