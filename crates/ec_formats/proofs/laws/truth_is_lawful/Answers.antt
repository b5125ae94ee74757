use Rattle.ec_formats.proofs.FieldLaws.{truth_law}
use Rattle.ec_formats.proofs.laws.truth_is_lawful.Goals as goal

pub returns : goal.returns
returns c = truth_law
