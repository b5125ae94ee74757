-- Object constructors capture no more than the classes.
use Rattle.ec_core_laws.proofs.Whole.{captured_once}
use Rattle.ec_core_laws.proofs.core_texts.core_sizes.each_value_is_captured_once.Goals as goal

pub returns : goal.returns
returns start table tokens program none tree = captured_once table tokens program none tree
