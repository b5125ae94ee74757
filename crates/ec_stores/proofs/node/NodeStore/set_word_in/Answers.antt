use Rattle.std.proofs.Common.{◌≡◌, ◌≢◌, ◌/◌, ◌%◌, ℕ, Some, sym, subst, arith}
use Rattle.ec_stores.specs.Changes.{FirstBlock, WritesWord}
use Rattle.ec_stores.specs.Inside.{data_of}
use Rattle.ec_stores.specs.Node.{KeepsBytes, NodeData, store_of}
use Rattle.ec_stores.proofs.Firsts.{first_alone, at_first, alone_at}
use Rattle.ec_stores.proofs.Writing.{keeps_bytes, laid_same, with_memory, writes_word}
use Rattle.ec_stores.proofs.node.NodeStore.set_word_in.Goals as goal

pub set_word_of-requires-clause-blocks_in : goal.set_word_of-requires-clause-blocks_in
set_word_of-requires-clause-blocks_in c =
    let node = data_of c.self.inside in
    let key = c.requires.owned.0 in
    let first = subst (λ (n : NodeData). FirstBlock (store_of n) key c.args.block) (sym c.self.view_is) c.requires.owned.1 in
    first_alone node c.self.invariant key c.args.block first

pub invariant_of-self : goal.invariant_of-self
invariant_of-self c = laid_same (data_of c.self.inside) c.set_word_of.new.memory c.self.invariant c.set_word_of.ensures.same

pub returns-clause-writes : goal.returns-clause-writes
returns-clause-writes c = λ key whose.
    let node = data_of c.self.inside in
    let few = c.ranges.word in
    let first = subst (λ (n : NodeData). FirstBlock (store_of n) key c.args.block) (sym c.self.view_is) whose in
    let writes = c.set_word_of.ensures.writes c.args.block (alone_at c.args.block (c.args.i / 128) (omega arith)) in
    subst (λ (n : NodeData). WritesWord (store_of n) (store_of (with_memory node c.set_word_of.new.memory)) key c.args.i c.args.word)
    c.self.view_is
    (writes_word node c.set_word_of.new.memory c.self.invariant c.set_word_of.ensures.same c.args.word (omega arith) key first.row
    c.args.i c.args.block first.there (at_first first.row.blocks c.args.block (c.args.i / 128) (omega arith) first.first) writes)

pub returns-clause-bytes : goal.returns-clause-bytes
returns-clause-bytes c = λ key whose.
    let node = data_of c.self.inside in
    let few = c.ranges.word in
    let first = subst (λ (n : NodeData). FirstBlock (store_of n) key c.args.block) (sym c.self.view_is) whose in
    let writes = c.set_word_of.ensures.writes c.args.block (alone_at c.args.block (c.args.i / 128) (omega arith)) in
    subst (λ (n : NodeData). KeepsBytes n (with_memory node c.set_word_of.new.memory) key (λ j. j ≢ c.args.i)) c.self.view_is
    (keeps_bytes node c.set_word_of.new.memory c.self.invariant c.set_word_of.ensures.same c.args.word (omega arith) key first.row
    c.args.i c.args.block first.there (at_first first.row.blocks c.args.block (c.args.i / 128) (omega arith) first.first) writes)
