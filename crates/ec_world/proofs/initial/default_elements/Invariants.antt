use Rattle.std.proofs.Common.{◌≡◌}
use Rattle.std.specs.Prelude.{replicate}
use Rattle.ec_world.specs.Values.{default_of}
use Rattle.ec_world.proofs.initial.default_elements.Given as goal

abbrev pub invariant-loop : goal.invariant-loop
invariant-loop l = l.values ≡ replicate l.counter (default_of l.of)
