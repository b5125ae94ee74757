use Rattle.std.proofs.Common.{arith}
use Rattle.ec_inputs.proofs.Numbers.{past}
use Rattle.ec_inputs.proofs.schedule.number.Goals as goal

pub returns-then-value-from : goal.returns-then-value-from
returns-then-value-from c =
    past c.args.digits.now c.loop-digit.value c.loop-digit.digit-index (omega arith) c.requires c.loop-digit.invariant.0 (omega arith)
