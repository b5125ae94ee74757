-- What the table asks for is in range.
use Rattle.ec_code.proofs.Doings.{doing_ranged}
use Rattle.ec_code.proofs.ranges.asked_values_are_ranged.Goals as goal

pub returns : goal.returns
returns start s who action operands r h = doing_ranged s r who action operands h
