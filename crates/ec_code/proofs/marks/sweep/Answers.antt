use Rattle.std.proofs.Common.{◌-◌, sym, ◌∙◌, arith}
use Rattle.ec_code.proofs.Sweeping.{swept_marked, swept_passed}
use Rattle.ec_code.proofs.marks.sweep.Goals as goal

pub loop-q-preserved-then-is_missing : goal.loop-q-preserved-then-is_missing
loop-q-preserved-then-is_missing c =
    swept_marked c.args.code.now c.args.x c.args.marks.now.items c.loop-q.q (c.loop-q.q - 1) c.at.result.now c.loop-q.found
    c.loop-q.marks.items c.loop-q.invariant (omega arith) c.at.ensures
    (rw c.as_slice.ensures.value at (sym c.is_missing.ensures ∙ c.if-is_missing.true))

pub loop-q-preserved : goal.loop-q-preserved
loop-q-preserved c =
    swept_passed c.args.code.now c.args.x c.args.marks.now.items c.loop-q.q (c.loop-q.q - 1) c.at.result.now c.loop-q.found
    c.loop-q.marks.items c.loop-q.invariant (omega arith) c.at.ensures
    (rw c.as_slice.ensures.value at (sym c.is_missing.ensures ∙ c.if-is_missing.false))
