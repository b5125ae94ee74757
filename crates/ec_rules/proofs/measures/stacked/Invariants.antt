use Rattle.std.proofs.Common.{◌≡◌, drop, max}
use Rattle.ec_rules.specs.Heights as spec
use Rattle.ec_rules.proofs.measures.stacked.Given as goal

abbrev pub invariant-loop-value : goal.invariant-loop-value
invariant-loop-value l = max l.height (spec.stacked l.held (drop l.value-index l.values)) ≡ spec.stacked l.initial.held l.values
