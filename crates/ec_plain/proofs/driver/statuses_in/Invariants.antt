use Rattle.std.proofs.Common.{◌≡◌, ◌++◌, drop, map}
use Rattle.ec_world.specs.Run.{statuses_of}
use Rattle.ec_plain.proofs.driver.statuses_in.Given as goal

-- the processes from this one on are still to come
abbrev pub invariant-loop-process : goal.invariant-loop-process
invariant-loop-process l = l.statuses.items ++ map (λ p. p.status) (drop l.process-index l.processes) ≡ statuses_of l.meaning.world
