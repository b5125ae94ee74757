-- The objects are those of the world, and so is the sight.
use Rattle.ec_cluster.proofs.Reading.{objects_read}
use Rattle.ec_cluster.proofs.Sighting.{sight_shown}
use Rattle.ec_cluster.proofs.seen.laws.what_is_shown_is_seen.Goals as goal

pub returns : goal.returns
returns c = λ k w h. (objects_read k w h, sight_shown k w h)
