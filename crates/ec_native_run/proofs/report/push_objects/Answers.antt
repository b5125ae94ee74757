use Rattle.std.proofs.Common.{◌≡◌, ◌+◌, ◌++◌, arith, length, refl, suc}
use Rattle.ec_meaning.specs.ClassNames.{class_name}
use Rattle.ec_meaning.specs.Sources.{source_of}
use Rattle.ec_native_run.proofs.report.push_objects.Goals as goal
use Rattle.ec_report.proofs.ObjectLists.{rest_done, rest_next}
use Rattle.ec_report.specs.Report.{lines_of_objects}

pub objects-init : goal.objects-init
objects-init c = λ d s w is stands nodes.
    let first : length c.args.specs.now + 1 ≡ suc w.common.nodes = omega (arith, nodes) in
    record { before = w.common.nodes; oid_is = first; rest = rw first refl }

pub objects-preserved : goal.objects-preserved
objects-preserved c = λ d s w is stands nodes.
    let name = class_name (source_of c.args.program.now) in
    let specs = c.args.specs.now in
    let whole = c.args.out.now.items ++ lines_of_objects name w specs in
    let pushed = rw c.if-branch.true at (c.in_ok-push_object.ensures d s w is stands nodes) in
    let next : c.in-Some.next ≡ c.objects.oid + 1 = omega (arith, c.in-Some.ensures) in
    rw next (rest_next name w specs c.objects.oid c.objects.out.items c.push_object.new.out.items whole
    (c.objects.invariant d s w is stands nodes) pushed)

pub returns : goal.returns
returns c = λ d s w is stands nodes.
    let name = class_name (source_of c.args.program.now) in
    let specs = c.args.specs.now in
    let whole = c.args.out.now.items ++ lines_of_objects name w specs in
    let pushed = rw c.if-branch.false at (c.in_ok-push_object.ensures d s w is stands nodes) in
    rest_done name w specs c.objects.oid c.objects.out.items c.push_object.new.out.items whole
    (c.objects.invariant d s w is stands nodes) pushed
