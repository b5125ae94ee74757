-- A fresh node gets the literals and then the defaults.
use Rattle.ec_acts.proofs.Starting.{at_first, constants_there, empty_there}
use Rattle.ec_acts.proofs.fresh.fresh_node.Goals as goal
use Rattle.ec_stores.specs.Node.{store_of}

pub set_constants-requires-clause-there : goal.set_constants-requires-clause-there
set_constants-requires-clause-there c =
    constants_there c.args.parts.now c.args.spec.now c.requires (store_of c.in_ok-node.node) (store_of c.intern_all.new.node)
    c.len-constants.result c.in_ok-node.ensures c.in_ok-intern_all.ensures c.len-constants.ensures

pub set_constants-requires-clause-empty : goal.set_constants-requires-clause-empty
set_constants-requires-clause-empty c =
    empty_there c.args.parts.now c.args.spec.now c.requires (store_of c.in_ok-node.node) (store_of c.intern_all.new.node)
    c.len-constants.result c.in_ok-node.ensures c.in_ok-intern_all.ensures

pub returns : goal.returns
returns c =
    at_first c.args.parts.now c.args.spec.now c.requires (store_of c.in_ok-node.node) (store_of c.intern_all.new.node)
    c.len-constants.result c.in_ok-node.ensures c.in_ok-intern_all.ensures (store_of c.set_constants.new.node) c.in_ok-set_constants.ensures
