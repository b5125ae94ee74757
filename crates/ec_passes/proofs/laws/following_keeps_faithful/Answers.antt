use Rattle.ec_passes.proofs.Following.{following_keeps_faithful}
use Rattle.ec_passes.proofs.laws.following_keeps_faithful.Goals as goal

pub returns : goal.returns
returns g c = following_keeps_faithful g.T.Pass.meaning g.T.Pass.alike
