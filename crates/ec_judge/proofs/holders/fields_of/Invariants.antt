use Rattle.std.proofs.Common.{◌≡◌, ◌++◌, drop}
use Rattle.ec_judge.specs.Holders.{members_seen}
use Rattle.ec_rules.specs.Lists.{each}
use Rattle.ec_rules.specs.Members.{fields_in}
use Rattle.ec_judge.proofs.holders.fields_of.Given as goal

abbrev pub invariant-loop-m : goal.invariant-loop-m
invariant-loop-m l =
    l.fields ++ each (fields_in l.scope) (members_seen (drop l.m-index l.members))
    ≡ l.initial.fields ++ each (fields_in l.scope) (members_seen l.members)
