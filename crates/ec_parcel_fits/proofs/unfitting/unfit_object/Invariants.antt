-- Each object before fits.
use Rattle.std.proofs.Common.{◌≡◌, ◌<◌, ℕ, Some}
use Rattle.std.specs.Prelude.{slice_get}
use Rattle.ec_parcel_fits.proofs.unfitting.unfit_object.Given as goal
use Rattle.ec_parcel_fits.specs.Unfitting.{ObjectFits}
use Rattle.ec_stores.specs.Node.{store_of}
use Rattle.ec_wire.specs.declared.parcel.ObjectPart.{ObjectPart}

abbrev pub invariant-loop-part : goal.invariant-loop-part
invariant-loop-part l = (i : ℕ) (x : ObjectPart) → i < l.part-index → slice_get l.objects i ≡ Some x →
    ObjectFits l.numbers (store_of l.node) x
