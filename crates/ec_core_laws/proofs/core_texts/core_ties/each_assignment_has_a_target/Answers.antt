-- Each assignment in the tree of a text has a target.
use Rattle.ec_core_laws.proofs.CoreTiesTextPrograms.{text_has_targets}
use Rattle.ec_core_laws.proofs.core_texts.core_ties.each_assignment_has_a_target.Goals as goal

pub returns : goal.returns
returns start tokens program tree = text_has_targets tokens program tree
