use Rattle.std.proofs.Common.{◌≡◌, drop}
use Rattle.ec_world.specs.Doings.{any_fixed, without}
use Rattle.ec_world.proofs.moving.any_other_fixed.Given as goal

-- the members from this one on decide
abbrev pub invariant-loop-oid : goal.invariant-loop-oid
invariant-loop-oid g l =
    any_fixed (g.W.Sees.sight l.world) (without l.x (drop l.oid-index l.members)) ≡ any_fixed (g.W.Sees.sight l.world)
    (without l.x l.members)
