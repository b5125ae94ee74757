-- Only the output is another.
use Rattle.ec_acts.proofs.Stepping.{answered, done_output}
use Rattle.ec_acts.proofs.plain.print.Goals as goal

pub returns-clause-does : goal.returns-clause-does
returns-clause-does c = λ who w mirrors. answered c.goes_on.ensures
    (done_output c.args.system.now w who mirrors c.args.text c.append.new.self c.in_ok-append.ensures.ok)
