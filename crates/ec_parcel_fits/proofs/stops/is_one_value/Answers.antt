-- Values are compared by their copies.
use Rattle.ec_parcel_fits.proofs.Parts.{one_told, two_told}
use Rattle.ec_parcel_fits.proofs.stops.is_one_value.Goals as goal

pub returns-in-Some-clause-one : goal.returns-in-Some-clause-one
returns-in-Some-clause-one c =
    one_told c.in_ok-copy.field-0 c.in_ok-copy-2.field-0 c.args.a.now c.args.b.now c.are_same.result c.in-Some.same c.in_ok-copy.ensures
    c.in_ok-copy-2.ensures c.are_same.ensures c.in-Some.is

pub returns-in-Some-clause-two : goal.returns-in-Some-clause-two
returns-in-Some-clause-two c =
    two_told c.in_ok-copy.field-0 c.in_ok-copy-2.field-0 c.args.a.now c.args.b.now c.are_same.result c.in-Some.same c.in_ok-copy.ensures
    c.in_ok-copy-2.ensures c.are_same.ensures c.in-Some.is
