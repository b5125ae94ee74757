use Rattle.std.proofs.Common.{◌≡◌, drop, max}
use Rattle.ec_rules.specs.Lists.{greatest, plus}
use Rattle.ec_rules.proofs.measures.chain_height.Given as goal

abbrev pub invariant-loop-value : goal.invariant-loop-value
invariant-loop-value l =
    max l.height (greatest (λ value. plus 1 value.height) (drop l.value-index l.more))
    ≡ max l.first.height (greatest (λ value. plus 1 value.height) l.more)
