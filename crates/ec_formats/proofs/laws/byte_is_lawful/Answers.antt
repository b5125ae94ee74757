use Rattle.ec_formats.proofs.FieldLaws.{byte_law}
use Rattle.ec_formats.proofs.laws.byte_is_lawful.Goals as goal

pub returns : goal.returns
returns c = byte_law
