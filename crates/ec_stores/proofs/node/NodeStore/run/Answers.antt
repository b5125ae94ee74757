use Rattle.ec_stores.specs.Inside.{data_of}
use Rattle.ec_stores.proofs.Writing.{laid_ran}
use Rattle.ec_stores.proofs.node.NodeStore.run.Goals as goal

pub invariant_of-self : goal.invariant_of-self
invariant_of-self g c = laid_ran (data_of c.self.inside) c.run_to_stop.new.memory c.self.inside.count c.self.invariant
    c.run_to_stop.ensures.rest

pub invariant_of-self-2 : goal.invariant_of-self-2
invariant_of-self-2 g c = laid_ran (data_of c.self.inside) c.run_to_stop.new.memory c.saturating_add-self-inside.result c.self.invariant
    c.run_to_stop.ensures.rest
