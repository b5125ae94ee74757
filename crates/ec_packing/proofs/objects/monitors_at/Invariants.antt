use Rattle.std.proofs.Common.{◌≡◌, take}
use Rattle.std.specs.List.{flat_map}
use Rattle.ec_cluster.specs.Cluster.{CodeWorld}
use Rattle.ec_code.specs.Typing.{Declared}
use Rattle.ec_parcels.specs.Classes.{ClassTable}
use Rattle.ec_packing.specs.Packing.{CanGo, monitor_goes}
use Rattle.ec_packing.proofs.objects.monitors_at.Given as goal

-- what goes of the monitors of the first members
abbrev pub invariant-loop-i : goal.invariant-loop-i
invariant-loop-i l =
    (d : Declared) (w : CodeWorld) (table : ClassTable) → CanGo d l.system w table l.members l.from →
    l.parts ≡ flat_map (monitor_goes l.system.cluster w l.from) (take l.i l.members)
