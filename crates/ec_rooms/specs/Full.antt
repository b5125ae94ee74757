-- When the first node that lacks room for the world to come lacks so much.
use Rattle.std.specs.Prelude.{ℕ, Option}
use Rattle.ec_cluster.specs.Cluster.{CodeWorld}
use Rattle.ec_cluster.specs.declared.cluster.Cluster.{Cluster}
use Rattle.ec_fullness.specs.Fullness.{IsFull}
use Rattle.ec_world.specs.declared.room.Lack.{Lack}
use Rattle.ec_rooms.specs.Places.{AgreeWith}

-- A node is the first that lacks room for world w' to come after w, with each object of w' where the events of w' have it.
pub record FindsFull (c : Cluster) (w w' : CodeWorld) (lack : Lack) : Type 0 where
  pub at : ℕ → Option ℕ
  pub agree : AgreeWith at w'
  pub full : IsFull c w w' at lack.node lack.part lack.need lack.free
