use Rattle.std.proofs.Common.{◌≡◌, take}
use Rattle.std.specs.List.{flat_map}
use Rattle.ec_cluster.specs.Cluster.{CodeWorld}
use Rattle.ec_code.specs.Typing.{Declared}
use Rattle.ec_parcels.specs.Classes.{ClassTable}
use Rattle.ec_packing.proofs.Standing.{goes_at}
use Rattle.ec_packing.specs.Packing.{CanGo}
use Rattle.ec_packing.proofs.activations.activations_at.Given as goal

-- what goes of the first of those that were found
abbrev pub invariant-loop-i : goal.invariant-loop-i
invariant-loop-i l =
    (d : Declared) (w : CodeWorld) (table : ClassTable) (can : CanGo d l.system w table l.members l.from) →
    l.parts ≡ flat_map (goes_at d l.system w table l.members l.from can) (take l.i l.found.items)
