-- An operation of an accepted program has few parameters.
use Rattle.ec_core_laws.proofs.Few.{each_has_few_parameters}
use Rattle.ec_core_laws.proofs.core_texts.core_sizes.each_operation_has_few_parameters.Goals as goal

pub returns : goal.returns
returns start table program is none = each_has_few_parameters table program is none
