-- Each activation before fits.
use Rattle.std.proofs.Common.{◌≡◌, ◌<◌, ℕ, Some}
use Rattle.std.specs.Prelude.{slice_get}
use Rattle.ec_parcel_fits.proofs.stops.unfit_activation.Given as goal
use Rattle.ec_parcel_fits.specs.Unfitting.{ActivationStands}
use Rattle.ec_stores.specs.Node.{store_of}
use Rattle.ec_wire.specs.declared.parcel.ActivationPart.{ActivationPart}

abbrev pub invariant-loop-part : goal.invariant-loop-part
invariant-loop-part l = (i : ℕ) (x : ActivationPart) → i < l.part-index → slice_get l.parts i ≡ Some x →
    ActivationStands l.tables (store_of l.node) x
