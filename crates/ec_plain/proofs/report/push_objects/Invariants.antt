use Rattle.std.proofs.Common.{◌++◌, ◌-◌, ◌^◌}
use Rattle.ec_meaning.specs.ClassNames.{class_name}
use Rattle.ec_meaning.specs.Sources.{source_of}
use Rattle.ec_report.specs.ObjectLines.{RestOfObjects}
use Rattle.ec_report.specs.Report.{lines_of_objects}
use Rattle.ec_plain.proofs.report.push_objects.Given as goal

abbrev pub invariant-objects : goal.invariant-objects
invariant-objects l =
    RestOfObjects (class_name (source_of l.meaning.program)) l.meaning.world l.specs l.oid l.out.items
    (l.initial.out.items ++ lines_of_objects (class_name (source_of l.meaning.program)) l.meaning.world l.specs)

abbrev pub decreases-objects : goal.decreases-objects
decreases-objects l = 2 ^ 32 - l.oid
