-- The world that is seen is the one that is shown.
use Rattle.ec_cluster.proofs.Sighting.{sight_shown}
use Rattle.ec_cluster.proofs.seen.seen.Seen.of.Goals as goal

pub returns-clause-sees : goal.returns-clause-sees
returns-clause-sees c = λ w h. sight_shown c.args.cluster.now w h
