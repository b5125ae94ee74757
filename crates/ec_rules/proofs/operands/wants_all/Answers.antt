use Rattle.std.proofs.Common.{◌∙◌}
use Rattle.ec_rules.specs.Operands.{wants}
use Rattle.ec_rules.proofs.Noted.{noted_next}
use Rattle.ec_rules.proofs.operands.wants_all.Goals as goal

pub loop-value-preserved : goal.loop-value-preserved
loop-value-preserved c =
    noted_next (wants c.args.wanted) c.loop-value.faults c.wants.new.faults c.args.values.now c.loop-value.value-index _
    c.loop-value-test.true c.wants.ensures
    ∙ c.loop-value.invariant
