-- One node more has the value.
use Rattle.std.proofs.Common.{arith}
use Rattle.ec_cluster.proofs.Defining.{defined_changes, defined_shown, one_more, still_there}
use Rattle.ec_cluster.proofs.constants.define.Goals as goal
use Rattle.ec_stores.specs.Node.{store_of}

pub set_constant-requires-clause-there : goal.set_constant-requires-clause-there
set_constant-requires-clause-there c =
    (c.requires c.loop-k.k (store_of c.at_mut.result.now) (still_there c.args.cluster.now c.loop-k.cluster c.args.index c.args.value.now
    c.loop-k.k c.at_mut.result.now c.loop-k.invariant c.at_mut.ensures.value)).0

pub set_constant-requires-clause-text : goal.set_constant-requires-clause-text
set_constant-requires-clause-text c =
    (c.requires c.loop-k.k (store_of c.at_mut.result.now) (still_there c.args.cluster.now c.loop-k.cluster c.args.index c.args.value.now
    c.loop-k.k c.at_mut.result.now c.loop-k.invariant c.at_mut.ensures.value)).1

pub loop-k-preserved : goal.loop-k-preserved
loop-k-preserved c =
    one_more c.args.cluster.now c.loop-k.cluster c.args.index c.args.value.now c.loop-k.k c.at_mut.result.now c.set_constant.new.node
    c.loop-k.invariant c.at_mut.ensures.value c.in_ok-set_constant.ensures.puts c.in_ok-set_constant.ensures.gets

pub returns-clause-changes : goal.returns-clause-changes
returns-clause-changes c =
    defined_changes c.args.cluster.now c.loop-k.cluster c.args.index c.args.value.now c.loop-k.k (omega arith) c.loop-k.invariant

pub returns-clause-shows : goal.returns-clause-shows
returns-clause-shows c =
    defined_shown c.args.cluster.now c.loop-k.cluster c.args.index c.args.value.now c.loop-k.k (omega arith) c.loop-k.invariant
