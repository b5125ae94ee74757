use Rattle.ec_base.proofs.Stacks.{pop_parts}
use Rattle.ec_base.proofs.list.Seq.pop.Goals as goal

pub returns-clause-top : goal.returns-clause-top
returns-clause-top g c =
    rw (← c.self.view_is) (pop_parts _ _ _ _ c.self.inside.items.ok.0 c.pop.ensures.items c.pop.ensures.variant).0

pub returns-clause-below : goal.returns-clause-below
returns-clause-below g c =
    rw (← c.self.view_is) (pop_parts _ _ _ _ c.self.inside.items.ok.0 c.pop.ensures.items c.pop.ensures.variant).1
