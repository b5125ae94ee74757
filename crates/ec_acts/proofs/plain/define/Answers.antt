-- The constant is one of the world's where the program has it.
use Rattle.std.proofs.Common.{arith}
use Rattle.ec_acts.proofs.Stepping.{answered}
use Rattle.ec_acts.proofs.Storing.{defined_nowhere, defined_there}
use Rattle.ec_acts.proofs.plain.define.Goals as goal

pub returns-then-index-len-clause-does : goal.returns-then-index-len-clause-does
returns-then-index-len-clause-does c = λ who w mirrors. answered c.goes_on.ensures
    (defined_nowhere c.args.system.now w who mirrors c.args.index c.args.value.now (omega arith))

pub returns-clause-does : goal.returns-clause-does
returns-clause-does c = λ who w mirrors. answered c.goes_on-2.ensures
    (defined_there c.args.system.now w who mirrors c.define.new.cluster c.in_ok-define.ensures.whereabouts c.args.index c.args.value.now
    (omega arith) c.in_ok-define.ensures.changes c.in_ok-define.ensures.shows)
