use Rattle.std.proofs.Common.{length, ◌-◌, ◌≡◌, drop}
use Rattle.ec_code.specs.Activations.{walk}
use Rattle.ec_stepping.specs.Stepping.{as_machine}
use Rattle.ec_stepping.proofs.walking.walk.Given as goal

-- from here the walk leads where it leads from its beginning
abbrev pub invariant-loop-at : goal.invariant-loop-at
invariant-loop-at l =
    walk l.literals l.own l.at (drop l.at l.code) 0 (as_machine l.m)
    ≡ walk l.literals l.own l.from (drop l.from l.code) 0 (as_machine l.initial.m)

abbrev pub decreases-loop-at : goal.decreases-loop-at
decreases-loop-at l = length l.code - l.at
