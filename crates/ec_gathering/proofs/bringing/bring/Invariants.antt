-- What has come, and what is left.
use Rattle.std.proofs.Common.{ℕ, List}
use Rattle.std.specs.Prelude.{drop}
use Rattle.ec_cluster.specs.Cluster.{CodeWorld}
use Rattle.ec_cluster.specs.Whereabouts.{WentTo}
use Rattle.ec_code.specs.Typing.{Declared}
use Rattle.ec_gathering.proofs.bringing.bring.Given as goal
use Rattle.ec_gathering.proofs.Coming.{IsBringing}
use Rattle.ec_gathering.specs.Bringing.{Brings}

abbrev pub invariant-loop-shipment : goal.invariant-loop-shipment
invariant-loop-shipment l =
    ((d : Declared) (w : CodeWorld) (members : List ℕ) → Brings d l.numbers l.fn.cluster w members l.to l.shipments →
    IsBringing d l.numbers l.fn.cluster l.cluster w members l.to (drop l.shipment-index l.shipments))
    × WentTo l.to l.fn.cluster.whereabouts l.cluster.whereabouts
