use Rattle.std.proofs.Common.{◌≡◌, drop}
use Rattle.ec_world.specs.World.{all_readied}
use Rattle.ec_world.proofs.granting.ready_each.Given as goal

-- those from this one on are still to be set
abbrev pub invariant-loop-q : goal.invariant-loop-q
invariant-loop-q g l = all_readied l.processes (drop l.q-index l.granted) ≡ all_readied l.initial.processes l.granted
