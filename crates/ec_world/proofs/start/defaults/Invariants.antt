use Rattle.std.proofs.Common.{◌≡◌, ◌++◌, drop}
use Rattle.ec_world.specs.Values.{defaults_of}
use Rattle.ec_world.proofs.start.defaults.Given as goal

abbrev pub invariant-loop-of : goal.invariant-loop-of
invariant-loop-of l = l.values ++ defaults_of (drop l.of-index l.types) ≡ defaults_of l.types
