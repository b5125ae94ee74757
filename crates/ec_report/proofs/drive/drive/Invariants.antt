use Rattle.std.proofs.Common.{◌-◌, List}
use Rattle.ec_world.specs.declared.process.ProcStatus.{ProcStatus}
use Rattle.ec_report.proofs.drive.drive.Given as goal

-- the run has come so far
abbrev pub invariant-entries : goal.invariant-entries
invariant-entries g l = (statuses : List ProcStatus)
    × g.D.Driver.Stands l.driver l.initial.state l.schedule l.budget statuses l.course l.state

abbrev pub decreases-entries : goal.decreases-entries
decreases-entries g l = l.budget - l.course.done
