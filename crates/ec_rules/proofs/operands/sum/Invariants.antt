use Rattle.std.proofs.Common.{◌≡◌, drop}
use Rattle.ec_rules.specs.Operands.{sum_faults}
use Rattle.ec_rules.specs.Rules.{noted}
use Rattle.ec_rules.proofs.operands.sum.Given as goal

abbrev pub invariant-loop-a : goal.invariant-loop-a
invariant-loop-a l =
    noted l.faults (sum_faults l.first.at l.is_clean l.left (drop l.a-index l.addends))
    ≡ noted l.initial.faults (sum_faults l.first.at l.first.is_clean l.first.of l.addends)
