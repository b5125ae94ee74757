-- The object is fixed no more at its node.
use Rattle.ec_acts.proofs.Stepping.{answered}
use Rattle.ec_acts.proofs.Storing.{unfixed_there}
use Rattle.ec_acts.proofs.plain.unfix.Goals as goal

pub returns-clause-does : goal.returns-clause-does
returns-clause-does c = λ who w mirrors. answered c.goes_on.ensures
    (unfixed_there c.args.system.now w who mirrors c.set_flag.new.cluster c.set_flag.ensures.whereabouts c.args.oid
    c.set_flag.ensures.changes c.set_flag.ensures.shows)
