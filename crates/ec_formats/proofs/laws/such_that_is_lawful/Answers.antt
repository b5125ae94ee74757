use Rattle.ec_formats.proofs.CombinatorLaws.{such_that_law}
use Rattle.ec_formats.proofs.laws.such_that_is_lawful.Goals as goal

pub returns : goal.returns
returns g c = such_that_law
