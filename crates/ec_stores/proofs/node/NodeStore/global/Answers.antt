use Rattle.std.proofs.Common.{sym, subst}
use Rattle.std.specs.Prelude.{IsSome}
use Rattle.ec_stores.specs.Inside.{data_of}
use Rattle.ec_stores.specs.Node.{NodeData, store_of}
use Rattle.ec_stores.proofs.Writing.{few_global}
use Rattle.ec_stores.proofs.node.NodeStore.global.Goals as goal

pub global_word-requires : goal.global_word-requires
global_word-requires c = few_global (data_of c.self.inside) c.args.i c.self.invariant
    (subst (λ (n : NodeData). IsSome ((store_of n).global c.args.i)) (sym c.self.view_is) c.requires)
