-- The parcels from the nodes so far, of each world from which the group may go.
use Rattle.std.proofs.Common.{ℕ, Option}
use Rattle.ec_cluster.specs.Cluster.{CodeWorld}
use Rattle.ec_code.specs.Typing.{Declared}
use Rattle.ec_gathering.proofs.shipping.ship.Given as goal
use Rattle.ec_gathering.specs.Gathers.{MayGather}
use Rattle.ec_gathering.specs.Shipping.{AreShipped}

abbrev pub invariant-loop-k : goal.invariant-loop-k
invariant-loop-k l =
    (d : Declared) (w : CodeWorld) (target : ℕ) (fixes : Option ℕ) → MayGather d l.system w l.numbers l.members target fixes →
    AreShipped l.numbers l.system.cluster w l.members l.to l.k l.shipments.items
