use Rattle.ec_formats.proofs.FieldLaws.{number_law}
use Rattle.ec_formats.proofs.laws.number_is_lawful.Goals as goal

pub returns : goal.returns
returns c = number_law
