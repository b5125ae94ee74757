use Rattle.std.proofs.Common.{◌≡◌, ◌++◌, drop}
use Rattle.ec_judge.specs.Holders.{members_seen}
use Rattle.ec_rules.specs.Lists.{each}
use Rattle.ec_rules.specs.Members.{operations_in}
use Rattle.ec_judge.proofs.holders.operations_of.Given as goal

abbrev pub invariant-loop-m : goal.invariant-loop-m
invariant-loop-m l =
    l.operations ++ each (operations_in l.scope) (members_seen (drop l.m-index l.members))
    ≡ each (operations_in l.scope) (members_seen l.members)
