use Rattle.std.proofs.Common.{[], ◌∷◌}
use Rattle.ec_fullness.proofs.nodes.lack_anywhere.Given as goal
use Rattle.ec_fullness.specs.Told.{HaveRoomBefore}

abbrev pub invariant-loop-k : goal.invariant-loop-k
invariant-loop-k l = HaveRoomBefore l.cluster (l.value ∷ []) l.k
