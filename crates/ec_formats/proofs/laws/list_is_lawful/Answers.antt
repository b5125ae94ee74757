use Rattle.ec_formats.proofs.ListLaws.{list_law}
use Rattle.ec_formats.proofs.laws.list_is_lawful.Goals as goal

pub returns : goal.returns
returns g c = λ limit item law. list_law item law limit
