use Rattle.std.proofs.Common.{◌≡◌, ◌++◌, drop, map}
use Rattle.ec_world.specs.Run.{statuses_of}
use Rattle.ec_world.proofs.running.Running.statuses.Given as goal

-- the processes from this one on are still to come
abbrev pub invariant-loop-process : goal.invariant-loop-process
invariant-loop-process g l =
    l.found.items ++ map (λ p. p.status) (drop l.process-index l.processes) ≡ statuses_of l.self.world
