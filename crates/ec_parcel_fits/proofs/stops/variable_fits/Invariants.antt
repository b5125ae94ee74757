-- Each variable before that has the word has the value.
use Rattle.std.proofs.Common.{◌≡◌, ◌<◌, ℕ, Some}
use Rattle.std.specs.Prelude.{slice_get}
use Rattle.ec_code.specs.declared.code.Live.{Live}
use Rattle.ec_node_frames.specs.Carried.{carried}
use Rattle.ec_node_frames.specs.Loops.{spot_of}
use Rattle.ec_parcel_fits.proofs.stops.variable_fits.Given as goal
use Rattle.ec_world.specs.declared.value.Value.{Value}

abbrev pub invariant-loop-j : goal.invariant-loop-j
invariant-loop-j l = (k : ℕ) (m : Live) (v u : Value) → k < l.j → slice_get (carried l.entry l.part.is_pending) k ≡ Some m →
    slice_get l.part.values l.i ≡ Some v → slice_get l.part.values k ≡ Some u → l.at ≡ spot_of l.table m → v ≡ u
