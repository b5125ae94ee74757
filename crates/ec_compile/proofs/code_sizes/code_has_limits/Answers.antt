-- What an accepted text is lowered to is within the limits of code.
use Rattle.ec_compile.proofs.Whole.{has_limits}
use Rattle.ec_compile.proofs.code_sizes.code_has_limits.Goals as goal

pub returns : goal.returns
returns start s tokens program p text tree core lowered = has_limits s program core tokens p text tree lowered
