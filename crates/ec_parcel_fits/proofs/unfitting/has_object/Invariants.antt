-- None of the objects before has the number.
use Rattle.std.proofs.Common.{◌≡◌, ◌≢◌, ◌<◌, ℕ, Some}
use Rattle.std.specs.Prelude.{slice_get}
use Rattle.ec_parcel_fits.proofs.unfitting.has_object.Given as goal
use Rattle.ec_wire.specs.declared.parcel.ObjectPart.{ObjectPart}

abbrev pub invariant-loop-part : goal.invariant-loop-part
invariant-loop-part l = (i : ℕ) (x : ObjectPart) → i < l.part-index → slice_get l.objects i ≡ Some x → x.number ≢ l.oid
