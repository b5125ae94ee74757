-- The object of each monitor before is one of the objects.
use Rattle.std.proofs.Common.{◌≡◌, ◌<◌, ℕ, Some}
use Rattle.std.specs.Prelude.{slice_get}
use Rattle.ec_parcel_fits.proofs.unfitting.stray_monitor.Given as goal
use Rattle.ec_parcels.specs.Owners.{object_keys}
use Rattle.ec_wire.specs.declared.parcel.MonitorPart.{MonitorPart}
use Rattle.ec_world.specs.Group.{Has}
use Rattle.ec_world.specs.declared.key.Key.TheVariants.{Object}

abbrev pub invariant-loop-part : goal.invariant-loop-part
invariant-loop-part l = (i : ℕ) (x : MonitorPart) → i < l.part-index → slice_get l.monitors i ≡ Some x →
    Has (object_keys l.objects) (Object x.object)
