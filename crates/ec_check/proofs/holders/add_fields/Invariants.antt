use Rattle.std.proofs.Common.{◌≡◌, ◌++◌, drop, map}
use Rattle.ec_check.specs.Resolving.{field_of}
use Rattle.ec_check.specs.Tree.{member_of}
use Rattle.ec_rules.specs.Lists.{each}
use Rattle.ec_check.proofs.holders.add_fields.Given as goal

abbrev pub invariant-loop-m : goal.invariant-loop-m
invariant-loop-m l =
    l.fields ++ each (field_of l.within) (map member_of (drop l.m-index l.members))
    ≡ l.initial.fields ++ each (field_of l.within) (map member_of l.members)
