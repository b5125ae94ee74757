use Rattle.std.proofs.Common.{◌≡◌, ◌++◌, drop}
use Rattle.ec_meaning.specs.Meaning.{defaults}
use Rattle.ec_meaning.proofs.behind.push_defaults.Given as goal

-- what is pushed so far, and what is still to come, are all that is to come
abbrev pub invariant-loop-i : goal.invariant-loop-i
invariant-loop-i l = l.values ++ defaults (drop l.i l.types) ≡ l.initial.values ++ defaults (drop l.from l.types)
