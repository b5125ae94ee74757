use Rattle.std.proofs.Common.{◌≡◌, ◌++◌, drop, map}
use Rattle.ec_types.specs.Declarations as spec
use Rattle.ec_types.proofs.conform.declared.operations_behind.Given as goal

abbrev pub invariant-loop-member : goal.invariant-loop-member
invariant-loop-member l =
    l.signatures ++ spec.operations_behind l.taken (map spec.in_member (drop l.member-index l.members))
    ≡ spec.operations_behind l.initial.taken (map spec.in_member l.members)
