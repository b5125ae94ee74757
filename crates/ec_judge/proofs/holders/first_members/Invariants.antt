use Rattle.std.proofs.Common.{◌≡◌, ◌++◌, drop, map}
use Rattle.ec_judge.specs.Holders.{members_seen}
use Rattle.ec_rules.specs.Members.{first_members}
use Rattle.ec_rules.specs.Tree.{member_of}
use Rattle.ec_judge.proofs.holders.first_members.Given as goal

abbrev pub invariant-loop-m : goal.invariant-loop-m
invariant-loop-m l =
    members_seen l.first.items ++ first_members l.taken (map member_of (drop l.m-index l.members))
    ≡ first_members l.initial.taken (map member_of l.members)
