-- One activation more fits.
use Rattle.std.proofs.Common.{Some, arith, sym, ap, ◌∙◌}
use Rattle.std.proofs.lemmas.Option.{slice_get-get_or}
use Rattle.ec_base.proofs.Lists.{get_within}
use Rattle.ec_parcel_fits.proofs.Parts.{next_too, none_told}
use Rattle.ec_parcel_fits.proofs.stops.unfit_activation.Goals as goal
use Rattle.ec_parcel_fits.specs.Unfitting.{ActivationStands}
use Rattle.ec_stores.specs.Node.{store_of}

pub loop-part-preserved : goal.loop-part-preserved
loop-part-preserved c =
    let xs = c.args.parts.now in
    let i = c.loop-part.part-index in
    let y = c.part-item.result in
    next_too (ActivationStands c.args.tables.now (store_of c.args.node.now)) xs i y
    (slice_get-get_or xs i y c.loop-part-test.true ∙ ap Some (sym c.part-item.is))
    (none_told c.in_ok-cause.field-0 c.in_default.not-Some c.in_ok-cause.ensures.none) c.loop-part.invariant

pub returns-clause-none : goal.returns-clause-none
returns-clause-none c = λ part h.
    let end = c.loop-part-test.false in
    let within = get_within c.args.parts.now h.at part h.is in
    c.loop-part.invariant h.at part (omega (arith, end, within)) h.is
