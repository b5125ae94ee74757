use Rattle.ec_formats.proofs.CombinatorLaws.{through_law}
use Rattle.ec_formats.proofs.laws.through_is_lawful.Goals as goal

pub returns : goal.returns
returns g c = through_law
