use Rattle.std.proofs.Common.{◌≡◌, drop}
use Rattle.ec_network.proofs.nodes_running.moving.any_fixed.Given as goal
use Rattle.ec_cluster.specs.Decoded.{seen_common}
use Rattle.ec_world.specs.Doings.{any_fixed}
use Rattle.ec_world.specs.Sights.{sight_of}

-- the members from this one on decide
abbrev pub invariant-loop-member : goal.invariant-loop-member
invariant-loop-member l =
    any_fixed (sight_of (seen_common l.seen)) (drop l.member-index l.members) ≡ any_fixed (sight_of (seen_common l.seen)) l.members
