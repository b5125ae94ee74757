-- One parcel wants what it wants.
use Rattle.ec_parcel_fits.proofs.Parts.{has_room, room_fails}
use Rattle.ec_parcel_fits.proofs.unfitting.lacks.Goals as goal
use Rattle.ec_stores.specs.Node.{store_of}

pub returns-in-Some-clause-some : goal.returns-in-Some-clause-some
returns-in-Some-clause-some c =
    room_fails c.args.numbers.now (store_of c.args.node.now) c.args.parcel.now c.in_ok-lack.field-0 c.in-Some.lack c.in-Some.is
    c.in_ok-lack.ensures.some

pub returns-in-None-clause-none : goal.returns-in-None-clause-none
returns-in-None-clause-none c =
    has_room c.args.numbers.now (store_of c.args.node.now) c.args.parcel.now c.in_ok-lack.field-0 c.in-None.is c.in_ok-lack.ensures.none
