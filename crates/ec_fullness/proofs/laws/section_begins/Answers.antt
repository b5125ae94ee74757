use Rattle.ec_fullness.proofs.Sections.{section_begins}
use Rattle.ec_fullness.proofs.laws.section_begins.Goals as goal

pub returns : goal.returns
returns c = section_begins
