use Rattle.std.proofs.Common.{◌≡◌, ◌+◌, ◌≤◌, drop, map}
use Rattle.ec_check.specs.Resolving.{conditions_in}
use Rattle.ec_check.specs.Tree.{member_of}
use Rattle.ec_check.proofs.holders.count_conditions.Given as goal

abbrev pub invariant-loop-m : goal.invariant-loop-m
invariant-loop-m l = record {
  so_far : l.count + conditions_in (map member_of (drop l.m-index l.members)) ≡ conditions_in (map member_of l.members);
  few : l.count ≤ l.m-index;
}
