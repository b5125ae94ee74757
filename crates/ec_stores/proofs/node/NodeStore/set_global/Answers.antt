use Rattle.std.proofs.Common.{sym, subst, arith}
use Rattle.std.specs.Prelude.{IsSome}
use Rattle.ec_stores.specs.Changes.{WritesGlobal}
use Rattle.ec_stores.specs.Inside.{data_of}
use Rattle.ec_stores.specs.Memory.{kind_of, WritesAt}
use Rattle.ec_stores.specs.Node.{NodeData, store_of}
use Rattle.ec_stores.proofs.Writing.{few_global, laid_same, with_memory, writes_global}
use Rattle.ec_stores.proofs.node.NodeStore.set_global.Goals as goal

pub global_word-requires : goal.global_word-requires
global_word-requires c = few_global (data_of c.self.inside) c.args.i c.self.invariant
    (subst (λ (n : NodeData). IsSome ((store_of n).global c.args.i)) (sym c.self.view_is) c.requires)

pub invariant_of-self : goal.invariant_of-self
invariant_of-self c = laid_same (data_of c.self.inside) c.set_word.new.self c.self.invariant c.set_word.ensures.same

pub returns : goal.returns
returns c =
    let node = data_of c.self.inside in
    let few = c.ranges.word in
    subst (λ (n : NodeData). WritesGlobal (store_of n) (store_of (with_memory node c.set_word.new.self)) c.args.i c.args.word)
    c.self.view_is
    (writes_global node c.set_word.new.self c.self.invariant c.set_word.ensures.same c.args.word (omega arith) c.args.i
    (subst (λ at. WritesAt (kind_of node.memory) node.memory c.set_word.new.self at c.args.word) c.global_word.ensures
    c.set_word.ensures.writes))
