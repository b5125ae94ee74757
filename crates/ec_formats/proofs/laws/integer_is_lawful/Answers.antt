use Rattle.ec_formats.proofs.FieldLaws.{integer_law}
use Rattle.ec_formats.proofs.laws.integer_is_lawful.Goals as goal

pub returns : goal.returns
returns c = integer_law
