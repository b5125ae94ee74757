use Rattle.std.proofs.Common.{◌≡◌, ◌+◌, ◌++◌, ℕ, suc, refl, subst, sym, arith, Bool}
use Rattle.ec_meaning.specs.ClassNames.{class_name}
use Rattle.ec_meaning.specs.Sources.{source_of}
use Rattle.ec_report.specs.ObjectLines.{RestOfObjects, PushesObject}
use Rattle.ec_report.specs.Report.{lines_of_objects}
use Rattle.ec_report.proofs.ObjectLists.{rest_next, rest_done}
use Rattle.ec_plain.proofs.report.push_objects.Goals as goal

pub objects-init : goal.objects-init
objects-init c =
    let o : c.in-Some.oid ≡ suc c.args.meaning.now.world.common.nodes = omega (arith, c.in-Some.ensures) in
    record { before = c.args.meaning.now.world.common.nodes; oid_is = o; rest = rw o refl }

pub objects-preserved : goal.objects-preserved
objects-preserved c =
    let name = class_name (source_of c.args.meaning.now.program) in
    let w = c.args.meaning.now.world in
    let whole = c.args.out.now.items ++ lines_of_objects name w c.args.specs.now in
    let pushed = rw c.if-branch.true at c.in_ok-push_object.ensures in
    let next : c.in-Some-checked_add.next ≡ c.objects.oid + 1 = omega (arith, c.in-Some-checked_add.ensures) in
    rw next (rest_next name w c.args.specs.now c.objects.oid c.objects.out.items c.push_object.new.out.items whole
    c.objects.invariant pushed)

pub returns : goal.returns
returns c =
    let name = class_name (source_of c.args.meaning.now.program) in
    let w = c.args.meaning.now.world in
    let whole = c.args.out.now.items ++ lines_of_objects name w c.args.specs.now in
    let pushed = rw c.if-branch.false at c.in_ok-push_object.ensures in
    rest_done name w c.args.specs.now c.objects.oid c.objects.out.items c.push_object.new.out.items whole c.objects.invariant pushed
