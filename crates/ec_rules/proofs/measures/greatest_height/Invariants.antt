use Rattle.std.proofs.Common.{◌≡◌, drop, max}
use Rattle.ec_rules.specs.Lists.{greatest}
use Rattle.ec_rules.proofs.measures.greatest_height.Given as goal

abbrev pub invariant-loop-value : goal.invariant-loop-value
invariant-loop-value l =
    max l.height (greatest (λ value. value.height) (drop l.value-index l.values)) ≡ greatest (λ value. value.height) l.values
