-- Bytes have one parcel.
use Rattle.ec_formats.proofs.Wholes.{one_value}
use Rattle.ec_wire.proofs.FormLaws.{parcel_law}
use Rattle.ec_wire.specs.WireForm.{parcel}
use Rattle.ec_carrying.proofs.unpacking.parcel_of.Goals as goal

pub returns-in-Ok : goal.returns-in-Ok
returns-in-Ok c = λ x wire. one_value parcel parcel_law c.in-Ok.parcel x c.args.bytes.now c.in-Ok.ensures.found wire
