use Rattle.std.proofs.Common.{◌≡◌, take}
use Rattle.std.specs.List.{flat_map}
use Rattle.ec_cluster.specs.Cluster.{CodeWorld}
use Rattle.ec_code.specs.Typing.{Declared}
use Rattle.ec_packing.specs.Packing.{CanGo, object_goes}
use Rattle.ec_packing.proofs.objects.objects_at.Given as goal

-- what goes of the first members
abbrev pub invariant-loop-i : goal.invariant-loop-i
invariant-loop-i l =
    (d : Declared) (w : CodeWorld) → CanGo d l.system w l.numbers l.members l.from →
    l.parts ≡ flat_map (object_goes l.numbers l.system.cluster w l.from) (take l.i l.members)
