use Rattle.std.proofs.Common.{◌≡◌, ◌-◌, ◌^◌, ◌≤◌, drop}
use Rattle.ec_rules.specs.Lists.{plus, total}
use Rattle.ec_rules.proofs.measures.total_nodes.Given as goal

abbrev pub invariant-loop-value : goal.invariant-loop-value
invariant-loop-value l = record {
  so_far : plus l.count (total (λ value. value.nodes) (drop l.value-index l.values)) ≡ total (λ value. value.nodes) l.values;
  small : l.count ≤ 2 ^ 64 - 1;
}
