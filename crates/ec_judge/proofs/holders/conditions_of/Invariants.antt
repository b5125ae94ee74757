use Rattle.std.proofs.Common.{◌≡◌, ◌++◌, drop}
use Rattle.ec_judge.specs.Holders.{members_seen}
use Rattle.ec_rules.specs.Lists.{each}
use Rattle.ec_rules.specs.Members.{conditions_in}
use Rattle.ec_judge.proofs.holders.conditions_of.Given as goal

abbrev pub invariant-loop-m : goal.invariant-loop-m
invariant-loop-m l =
    l.conditions ++ each conditions_in (members_seen (drop l.m-index l.members))
    ≡ each conditions_in (members_seen l.members)
