-- Steps keep what they write in range.
use Rattle.ec_code.proofs.RangesSteps.{act_ranged}
use Rattle.ec_code.proofs.ranges.steps_keep_machines_ranged.Goals as goal

pub returns : goal.returns
returns start p small own m o h r = act_ranged p.literals own small.literals m r o h
