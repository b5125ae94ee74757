use Rattle.std.proofs.Common.{◌≡◌, ◌++◌, drop}
use Rattle.ec_world.specs.Values.{field_defaults}
use Rattle.ec_world.proofs.initial.push_defaults.Given as goal

-- what is pushed so far, and what is still to come, are all that is to come
abbrev pub invariant-loop-i : goal.invariant-loop-i
invariant-loop-i l = l.values ++ field_defaults (drop l.i l.fields) ≡ l.initial.values ++ field_defaults (drop l.from l.fields)
