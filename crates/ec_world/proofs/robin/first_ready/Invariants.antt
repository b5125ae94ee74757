use Rattle.std.proofs.Common.{◌≡◌, drop}
use Rattle.ec_world.specs.Run.{first_true}
use Rattle.ec_world.proofs.robin.first_ready.Given as goal

-- none from `from` on is Ready so far
abbrev pub invariant-loop-p : goal.invariant-loop-p
invariant-loop-p l = first_true l.from 0 l.ready ≡ first_true l.from l.p (drop l.p l.ready)
