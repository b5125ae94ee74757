-- Where nothing is told, each part fits and there is room.
use Rattle.ec_parcel_fits.proofs.Parts.{none_told}
use Rattle.ec_parcel_fits.proofs.Standing.{all_told, classes_told}
use Rattle.ec_parcel_fits.proofs.unfitting.unfit.Goals as goal
use Rattle.ec_stores.specs.Node.{store_of}

pub lacks-requires : goal.lacks-requires
lacks-requires c =
    classes_told c.args.numbers.now c.args.tables.now (store_of c.args.node.now) c.args.parcel.now c.contents-contents.result.now
    c.contents-contents.ensures.same c.as_slice-objects.result.now c.as_slice-monitors.result.now c.as_slice-activations.result.now
    c.as_slice-objects.ensures c.as_slice-monitors.ensures c.as_slice-activations.ensures c.in_default.ensures.none

pub returns-in-None-clause-none : goal.returns-in-None-clause-none
returns-in-None-clause-none c =
    all_told c.args.numbers.now c.args.tables.now (store_of c.args.node.now) c.args.parcel.now c.contents-contents.result.now
    c.contents-contents.ensures.same c.as_slice-objects.result.now c.as_slice-monitors.result.now c.as_slice-activations.result.now
    c.as_slice-objects.ensures c.as_slice-monitors.ensures c.as_slice-activations.ensures c.kind-tidy.ensures.tidy
    c.contents-contents.ensures.rules c.in_default.ensures.none c.in_default-stray_monitor.ensures.none
    (none_told c.in_ok-process.field-0 c.in_default-2.not-Some c.in_ok-process.ensures.none)
    (none_told c.in_ok-part.field-0 (λ part some. let none = c.in-None.is in cc) c.in_ok-part.ensures.none)
