-- Contents that hold things of a world.
use Rattle.std.specs.Prelude.{ℕ}
use Rattle.ec_carrying.specs.Landing.{EachArrivesAs, EachComesAs}
use Rattle.ec_cluster.specs.Cluster.{CodeWorld}
use Rattle.ec_cluster.specs.declared.cluster.Cluster.{Cluster}
use Rattle.ec_cluster.specs.Frames.{HasImages}
use Rattle.ec_code.specs.Typing.{Declared}
use Rattle.ec_parcels.specs.Classes.{ClassTable}
use Rattle.ec_world.specs.Held.{Distinct}
use Rattle.ec_parcels.specs.Owners.{keys_of}
use Rattle.ec_wire.specs.declared.parcel.Contents.{Contents}

-- Each object and each activation in the contents is one of the world, whose place is a node; no object is fixed.
pub record HoldsThings (d : Declared) (table : ClassTable) (c : Cluster) (w : CodeWorld) (k : ℕ) (x : Contents) : Type 0 where
  pub images : HasImages d c
  pub once : Distinct (keys_of x)
  pub objects : EachComesAs table c w k x
  pub activations : EachArrivesAs c w k x.activations
