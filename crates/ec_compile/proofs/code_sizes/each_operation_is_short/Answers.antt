-- An operation of an accepted program has few steps.
use Rattle.ec_compile.proofs.Whole.{operation_is_short}
use Rattle.ec_compile.proofs.code_sizes.each_operation_is_short.Goals as goal

pub returns : goal.returns
returns start s program o made core there lowered = operation_is_short s program core o made there lowered
