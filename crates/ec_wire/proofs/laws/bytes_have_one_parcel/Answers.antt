use Rattle.ec_formats.proofs.Wholes.{one_value}
use Rattle.ec_wire.specs.WireForm.{parcel}
use Rattle.ec_wire.proofs.FormLaws.{parcel_law}
use Rattle.ec_wire.proofs.laws.bytes_have_one_parcel.Goals as goal

pub returns : goal.returns
returns c = one_value parcel parcel_law
