-- The parcels so far are those of the shipments so far.
use Rattle.std.proofs.Common.{◌≡◌, map, take}
use Rattle.ec_gathering.proofs.lacking.parcels_of.Given as goal
use Rattle.ec_gathering.specs.Shipping as shipping

abbrev pub invariant-loop-shipment : goal.invariant-loop-shipment
invariant-loop-shipment l = map (λ p. p.now) l.parcels.items ≡ shipping.parcels_of (take l.shipment-index l.shipments)
