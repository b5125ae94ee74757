use Rattle.std.proofs.Common.{refl}
use Rattle.ec_wire.specs.WireForm.{parcel}
use Rattle.ec_wire.proofs.laws.parcels_have_one_spelling.Goals as goal

pub returns : goal.returns
returns c = λ p rules. (parcel.spell p, record { is_wire = record { rules = rules; spelled = refl }; only = λ others w. w.spelled })
