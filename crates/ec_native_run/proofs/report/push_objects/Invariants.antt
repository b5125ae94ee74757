use Rattle.std.proofs.Common.{◌++◌, ◌-◌, ◌^◌}
use Rattle.ec_meaning.specs.ClassNames.{class_name}
use Rattle.ec_meaning.specs.Sources.{source_of}
use Rattle.ec_native_run.proofs.report.push_objects.Given as goal
use Rattle.ec_native_run.specs.Following.{ForNodes}
use Rattle.ec_report.specs.ObjectLines.{RestOfObjects}
use Rattle.ec_report.specs.Report.{lines_of_objects}

abbrev pub invariant-objects : goal.invariant-objects
invariant-objects l = ForNodes l.net l.specs
    (λ w. RestOfObjects (class_name (source_of l.program)) w l.specs l.oid l.out.items
    (l.initial.out.items ++ lines_of_objects (class_name (source_of l.program)) w l.specs))

abbrev pub decreases-objects : goal.decreases-objects
decreases-objects l = 2 ^ 32 - l.oid
