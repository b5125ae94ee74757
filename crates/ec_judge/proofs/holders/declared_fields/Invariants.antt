use Rattle.std.proofs.Common.{◌≡◌, ◌-◌, ◌^◌, ◌≤◌, drop, map}
use Rattle.ec_rules.specs.Limits.{field_count}
use Rattle.ec_rules.specs.Lists.{plus, total}
use Rattle.ec_rules.specs.Tree.{member_of}
use Rattle.ec_judge.proofs.holders.declared_fields.Given as goal

abbrev pub invariant-loop-m : goal.invariant-loop-m
invariant-loop-m l = record {
  so_far : plus l.count (total field_count (map member_of (drop l.m-index l.members))) ≡ total field_count (map member_of l.members);
  small : l.count ≤ 2 ^ 64 - 1;
}
