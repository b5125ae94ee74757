use Rattle.std.proofs.Common.{◌≡◌, replicate}
use Rattle.ec_world.specs.Run.{node_object}
use Rattle.ec_world.proofs.start.node_objects.Given as goal

abbrev pub invariant-loop-k : goal.invariant-loop-k
invariant-loop-k l = l.objects ≡ replicate l._k node_object
