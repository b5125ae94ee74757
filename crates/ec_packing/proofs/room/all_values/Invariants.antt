use Rattle.std.proofs.Common.{◌≡◌, map, take}
use Rattle.ec_parcels.specs.Owners as spec
use Rattle.ec_packing.proofs.room.all_values.Given as goal

abbrev pub invariant-loop-parcel : goal.invariant-loop-parcel
invariant-loop-parcel l = l.values.items ≡ spec.all_values (map (λ p. p.now) (take l.parcel-index l.parcels))
