-- None of all has the number.
use Rattle.std.proofs.Common.{◌≡◌, arith}
use Rattle.ec_base.proofs.Lists.{get_within}
use Rattle.ec_parcel_fits.proofs.unfitting.has_object.Goals as goal
use Rattle.ec_parcels.proofs.Rising.{get_mapped}
use Rattle.ec_wire.specs.declared.parcel.ObjectPart.{ObjectPart}
use Rattle.ec_world.specs.declared.key.Key.TheVariants.{Object}

pub returns-clause-none : goal.returns-clause-none
returns-clause-none c = λ f h.
    let xs = c.args.objects.now in
    let m = get_mapped (λ (o : ObjectPart). Object o.number) xs h.at (Object c.args.oid) h.is in
    let end = c.loop-part-test.false in
    let within = get_within xs h.at m.0 m.1 in
    let key = m.2 in
    let same : m.0.number ≡ c.args.oid = cc in
    c.loop-part.invariant h.at m.0 (omega (arith, end, within)) m.1 same
