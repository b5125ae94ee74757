use Rattle.ec_formats.proofs.ListLaws.{optional_law}
use Rattle.ec_formats.proofs.laws.optional_is_lawful.Goals as goal

pub returns : goal.returns
returns g c = optional_law
