use Rattle.std.proofs.Common.{◌≡◌, ◌++◌, drop, map}
use Rattle.ec_rules.specs.Members.{member_name}
use Rattle.ec_rules.specs.Tree.{member_of}
use Rattle.ec_judge.proofs.holders.add_member_names.Given as goal

abbrev pub invariant-loop-m : goal.invariant-loop-m
invariant-loop-m l =
    map (λ x. x.now) l.names.items ++ map member_name (map member_of (drop l.m-index l.members))
    ≡ map (λ x. x.now) l.initial.names.items ++ map member_name (map member_of l.members)
