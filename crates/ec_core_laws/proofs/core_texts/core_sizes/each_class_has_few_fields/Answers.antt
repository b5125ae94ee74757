-- A class of an accepted program has few fields.
use Rattle.ec_core_laws.proofs.Few.{each_has_few_fields}
use Rattle.ec_core_laws.proofs.core_texts.core_sizes.each_class_has_few_fields.Goals as goal

pub returns : goal.returns
returns start table program is none = each_has_few_fields table program is none
