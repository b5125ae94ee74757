use Rattle.ec_base.proofs.Stacks.{pop_parts}
use Rattle.ec_monitors.proofs.lists.take_last.Goals as goal

pub returns-clause-top : goal.returns-clause-top
returns-clause-top g c = (pop_parts _ _ _ _ c.args.items.now.ok.0 c.pop.ensures.items c.pop.ensures.variant).0

pub returns-clause-below : goal.returns-clause-below
returns-clause-below g c = (pop_parts _ _ _ _ c.args.items.now.ok.0 c.pop.ensures.items c.pop.ensures.variant).1
