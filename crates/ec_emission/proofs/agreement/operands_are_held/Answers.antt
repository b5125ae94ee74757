-- What is held for an invocation.
use Rattle.ec_emission.proofs.Agreeing as agreeing
use Rattle.ec_emission.proofs.agreement.operands_are_held.Goals as goal

pub returns : goal.returns
returns g c = agreeing.operands_are_held g.L.Loops.stand
