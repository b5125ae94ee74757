use Rattle.std.proofs.Common.{◌≡◌, drop}
use Rattle.ec_world.specs.Group.{links_in}
use Rattle.ec_world.specs.Search.{all_found}
use Rattle.ec_world.proofs.group.Search.find_linked.Given as goal

-- the fields from place i on are still to be looked at
abbrev pub invariant-loop-i : goal.invariant-loop-i
invariant-loop-i l = all_found l.self (links_in (drop l.i l.fields) (drop l.i l.values)) ≡ all_found l.initial.self
    (links_in l.fields l.values)
