use Rattle.std.proofs.Common.{◌≡◌, drop}
use Rattle.ec_rules.specs.Operands.{wants_all}
use Rattle.ec_rules.specs.Rules.{noted}
use Rattle.ec_rules.proofs.operands.wants_all.Given as goal

abbrev pub invariant-loop-value : goal.invariant-loop-value
invariant-loop-value l =
    noted l.faults (wants_all l.wanted (drop l.value-index l.values)) ≡ noted l.initial.faults (wants_all l.wanted l.values)
