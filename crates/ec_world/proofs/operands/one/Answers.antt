use Rattle.ec_world.proofs.OperandLists.{one_alone}
use Rattle.ec_world.proofs.operands.one.Goals as goal

pub returns-in-None : goal.returns-in-None
returns-in-None c = one_alone c.args.operands _ c.in_ok-last.last c.in_ok-last.ensures.top c.in_ok-last.ensures.below c.in-None.ensures.top
