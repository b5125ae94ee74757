use Rattle.ec_formats.proofs.CombinatorLaws.{pair_law}
use Rattle.ec_formats.proofs.laws.pair_is_lawful.Goals as goal

pub returns : goal.returns
returns g c = pair_law
