use Rattle.std.proofs.Common.{◌≡◌, map}
use Rattle.ec_world.specs.Run.{first_true, is_ready}
use Rattle.ec_report.specs.Driver.{OfStatuses}
use Rattle.ec_report.proofs.step.first_ready.Given as goal

-- none from `from` on is Ready so far
abbrev pub invariant-loop-p : goal.invariant-loop-p
invariant-loop-p g l = OfStatuses (g.D.Driver.Stands l.driver) (g.D.Driver.FindsFull l.driver) l.state
    (λ ss. first_true l.from 0 (map is_ready ss) ≡ first_true l.p 0 (map is_ready ss))
