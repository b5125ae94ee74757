-- What the code holds for an invocation.
use Rattle.ec_accepted.proofs.Accepted.{is_code}
use Rattle.ec_accepted.proofs.laws.operands_are_held.Goals as goal
use Rattle.ec_emission.proofs.Agreeing as agreeing
use Rattle.ec_emission.specs.Lowered.{declared_of}
use Rattle.ec_emission_laws.specs.Lowerable.{lowered_loops}

pub returns : goal.returns
returns start s program p a lowered n entries i top is =
    agreeing.operands_are_held lowered_loops s (declared_of s) p (is_code s program a p lowered) n entries i top is
