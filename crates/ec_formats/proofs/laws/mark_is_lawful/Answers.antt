use Rattle.ec_formats.proofs.FieldLaws.{mark_law}
use Rattle.ec_formats.proofs.laws.mark_is_lawful.Goals as goal

pub returns : goal.returns
returns c = mark_law
