-- Each object that was noted is one of the world.
use Rattle.ec_cluster.proofs.Reading.{all_can}
use Rattle.ec_cluster.proofs.seen.laws.what_is_shown_can_be_seen.Goals as goal

pub returns : goal.returns
returns c = λ k w h few. all_can k w h few
