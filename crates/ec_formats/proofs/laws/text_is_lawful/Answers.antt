use Rattle.ec_formats.proofs.FieldLaws.{text_law}
use Rattle.ec_formats.proofs.laws.text_is_lawful.Goals as goal

pub returns : goal.returns
returns c = text_law
