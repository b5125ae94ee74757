-- The number of each class of an accepted program is that of a declared type.
use Rattle.ec_core_laws.proofs.Declared.{each_is_declared}
use Rattle.ec_core_laws.proofs.core_texts.core_ties.each_class_is_declared.Goals as goal

pub returns : goal.returns
returns start table program is none = each_is_declared table program is
