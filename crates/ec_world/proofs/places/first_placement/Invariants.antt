use Rattle.std.proofs.Common.{◌≡◌}
use Rattle.ec_world.specs.Places.{numbers_from}
use Rattle.ec_world.proofs.places.first_placement.Given as goal

abbrev pub invariant-loop-k : goal.invariant-loop-k
invariant-loop-k l = l.placement.items ≡ numbers_from 0 l.k
