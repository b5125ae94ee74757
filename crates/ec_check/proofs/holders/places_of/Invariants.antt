use Rattle.std.proofs.Common.{◌≡◌, ◌++◌, drop, map}
use Rattle.ec_check.specs.Making.{env_of}
use Rattle.ec_check.specs.Places.{place_of}
use Rattle.ec_check.proofs.holders.places_of.Given as goal

abbrev pub invariant-loop-i : goal.invariant-loop-i
invariant-loop-i l =
    l.places ++ map (place_of (env_of l.r)) (drop l.i l.captures) ≡ map (place_of (env_of l.r)) l.captures
