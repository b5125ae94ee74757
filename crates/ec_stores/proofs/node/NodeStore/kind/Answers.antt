use Rattle.std.proofs.Common.{subst}
use Rattle.ec_things.specs.Store.{Tidy}
use Rattle.ec_stores.specs.Inside.{data_of}
use Rattle.ec_stores.specs.Node.{NodeData, store_of}
use Rattle.ec_stores.proofs.Placing.{tidy_laid}
use Rattle.ec_stores.proofs.node.NodeStore.kind.Goals as goal

pub returns-clause-tidy : goal.returns-clause-tidy
returns-clause-tidy c = subst (λ (n : NodeData). Tidy (store_of n)) c.self.view_is (tidy_laid (data_of c.self.inside) c.self.invariant)
