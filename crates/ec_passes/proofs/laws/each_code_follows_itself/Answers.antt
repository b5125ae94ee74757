use Rattle.ec_passes.proofs.Itself.{each_code_follows_itself}
use Rattle.ec_passes.proofs.laws.each_code_follows_itself.Goals as goal

pub returns : goal.returns
returns g c = each_code_follows_itself g.T.Pass.meaning
