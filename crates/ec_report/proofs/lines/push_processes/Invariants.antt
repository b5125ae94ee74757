use Rattle.std.proofs.Common.{◌≡◌, ◌++◌, drop}
use Rattle.ec_report.specs.Report.{process_lines}
use Rattle.ec_report.proofs.lines.push_processes.Given as goal

abbrev pub invariant-loop-p : goal.invariant-loop-p
invariant-loop-p l = l.out.items ++ process_lines l.p (drop l.p l.statuses) ≡ l.initial.out.items ++ process_lines 0 l.statuses
