-- Each variable before fits.
use Rattle.std.proofs.Common.{◌<◌, ℕ}
use Rattle.ec_node_frames.specs.Carried.{carried}
use Rattle.ec_parcel_fits.proofs.stops.has_homes.Given as goal
use Rattle.ec_parcel_fits.specs.Unfitting.{VariableFits}

abbrev pub invariant-loop-i : goal.invariant-loop-i
invariant-loop-i l = (k : ℕ) → k < l.i → VariableFits l.table (carried l.entry l.part.is_pending) l.part.values k
