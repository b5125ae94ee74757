-- The own operation of an accepted program has few steps.
use Rattle.ec_compile.proofs.Whole.{own_is_short}
use Rattle.ec_compile.proofs.code_sizes.program_is_short.Goals as goal

pub returns : goal.returns
returns start s program made core lowered = own_is_short s program core made lowered
