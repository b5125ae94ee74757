use Rattle.std.proofs.Common.{◌≡◌, ◌++◌, drop}
use Rattle.ec_judge.specs.Holders.{members_seen}
use Rattle.ec_rules.specs.Lists.{each}
use Rattle.ec_rules.specs.Members.{field_names_in}
use Rattle.ec_judge.proofs.holders.field_names.Given as goal

abbrev pub invariant-loop-m : goal.invariant-loop-m
invariant-loop-m l =
    l.fields ++ each field_names_in (members_seen (drop l.m-index l.members))
    ≡ l.initial.fields ++ each field_names_in (members_seen l.members)
