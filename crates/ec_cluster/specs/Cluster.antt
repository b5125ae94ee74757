-- Nodes as what they keep, where objects are, and when nodes show a world of three-address code.
use Rattle.std.specs.Prelude.{◌≡◌, ℕ, List, Option, Some, IsSome, option_map, slice_get}
use Rattle.ec_activations.specs.Frames.{frame_thing}
use Rattle.ec_cluster.specs.Images.{homes_on}
use Rattle.ec_cluster.specs.declared.cluster.Cluster.{Cluster}
use Rattle.ec_code.specs.declared.activation.CodeActivation.{CodeActivation}
use Rattle.ec_cluster.specs.Whereabouts.{place_at}
use Rattle.ec_stores.specs.Node.{NodeData, store_of}
use Rattle.ec_things.specs.Shows.{ShowsWorld}
use Rattle.ec_things.specs.Store.{Store}
use Rattle.ec_things.specs.Things.{Thing}
use Rattle.ec_world.specs.declared.world.World.{World}

abbrev pub CodeWorld : Type 0
CodeWorld = World CodeActivation

-- what the node of a number keeps
abbrev pub stores_of : List NodeData → ℕ → Option Store
stores_of nodes k = option_map store_of (slice_get nodes k)

abbrev pub stores : Cluster → ℕ → Option Store
stores c = stores_of c.nodes

-- the node at which an object is
abbrev pub place : Cluster → ℕ → Option ℕ
place c = place_at c.whereabouts

-- an activation as a node keeps it, by its process and its depth
abbrev pub frame_of : Cluster → ℕ → ℕ → CodeActivation → Thing
frame_of c = frame_thing c.parts (homes_on c.images)

-- The nodes show this world: each object and each activation stands at the node where it should be, and nothing else stands anywhere.
abbrev pub Shows : Cluster → CodeWorld → Type 0
Shows c w = ShowsWorld (frame_of c) (stores c) w (place c)
