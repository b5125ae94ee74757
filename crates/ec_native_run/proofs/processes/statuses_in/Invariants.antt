use Rattle.std.proofs.Common.{◌≡◌, ◌-◌, ◌^◌, take}
use Rattle.ec_native_run.proofs.processes.statuses_in.Given as goal
use Rattle.ec_network.specs.Networks.{ForStanding}
use Rattle.ec_world.specs.Run.{statuses_of}

abbrev pub invariant-processes : goal.invariant-processes
invariant-processes l = ForStanding l.net (λ d s w. l.statuses.items ≡ take l.p (statuses_of w))

abbrev pub decreases-processes : goal.decreases-processes
decreases-processes l = 2 ^ 32 - l.p
