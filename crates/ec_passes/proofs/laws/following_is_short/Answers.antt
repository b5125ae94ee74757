use Rattle.ec_passes.proofs.Following.{following_is_short}
use Rattle.ec_passes.proofs.laws.following_is_short.Goals as goal

pub returns : goal.returns
returns g c = following_is_short g.T.Pass.meaning g.T.Pass.alike
