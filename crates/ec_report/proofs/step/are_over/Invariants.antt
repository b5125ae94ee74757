use Rattle.std.proofs.Common.{◌≡◌, ◌≤◌, drop, length}
use Rattle.std.specs.List.{list_all}
use Rattle.ec_world.specs.Run.{is_over}
use Rattle.ec_report.specs.Driver.{OfStatuses}
use Rattle.ec_report.proofs.step.are_over.Given as goal

-- all are over so far, and there are as many
abbrev pub invariant-loop-p : goal.invariant-loop-p
invariant-loop-p g l = OfStatuses (g.D.Driver.Stands l.driver) (g.D.Driver.FindsFull l.driver) l.state
    (λ ss. (list_all is_over ss ≡ list_all is_over (drop l.p ss)) × (l.p ≤ length ss))
