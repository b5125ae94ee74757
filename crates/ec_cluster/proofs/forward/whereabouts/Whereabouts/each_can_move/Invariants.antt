use Rattle.std.proofs.Common.{◌-◌, ◌<◌, ◌^◌, ℕ, suc}
use Rattle.ec_cluster.proofs.forward.whereabouts.Whereabouts.each_can_move.Given as goal
use Rattle.ec_cluster.specs.Whereabouts.{moves_of}

abbrev pub invariant-loop-i : goal.invariant-loop-i
invariant-loop-i l = (j : ℕ) → j < l.i → moves_of l.self (suc j) < 2 ^ 64 - 1
