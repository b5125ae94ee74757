use Rattle.std.proofs.Common.{◌≡◌, ◌-◌, ◌^◌, ◌≤◌, drop}
use Rattle.ec_rules.specs.Lists.{plus, total}
use Rattle.ec_rules.proofs.measures.chain_nodes.Given as goal

abbrev pub invariant-loop-value : goal.invariant-loop-value
invariant-loop-value l = record {
  so_far : plus l.count (total (λ value. plus 1 value.nodes) (drop l.value-index l.more))
      ≡ plus l.first.nodes (total (λ value. plus 1 value.nodes) l.more);
  small : l.count ≤ 2 ^ 64 - 1;
}
