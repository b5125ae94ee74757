-- The element of the vector is another at its node.
use Rattle.ec_acts.proofs.Stepping.{answered}
use Rattle.ec_acts.proofs.Storing.{stored_there}
use Rattle.ec_acts.proofs.plain.store.Goals as goal

pub returns-clause-does : goal.returns-clause-does
returns-clause-does c = λ who w mirrors. answered c.goes_on.ensures
    (stored_there c.args.system.now w who mirrors c.set_field.new.cluster c.in_ok-set_field.ensures.whereabouts c.args.vector c.args.index
    c.args.value.now c.requires.field c.in_ok-set_field.ensures.changes c.in_ok-set_field.ensures.shows)
