use Rattle.std.proofs.Common.{◌≡◌, ◌/◌, ◌%◌, ℕ, Some, sym, subst, arith}
use Rattle.std.specs.Prelude.{slice_get}
use Rattle.ec_memory.specs.Words.{block_word_at}
use Rattle.ec_stores.specs.Changes.{FirstBlock, WordIs}
use Rattle.ec_stores.specs.Inside.{data_of}
use Rattle.ec_stores.specs.Memory.{kind_of, word_at}
use Rattle.ec_stores.specs.Node.{NodeData, store_of}
use Rattle.ec_stores.proofs.Firsts.{first_alone, first_within, in_first}
use Rattle.ec_stores.proofs.Writing.{word_read}
use Rattle.ec_stores.proofs.node.NodeStore.word_in.Goals as goal

pub word_of-requires-clause-blocks_in : goal.word_of-requires-clause-blocks_in
word_of-requires-clause-blocks_in c =
    let node = data_of c.self.inside in
    let key = c.requires.owned.0 in
    let first = subst (λ (n : NodeData). FirstBlock (store_of n) key c.args.block) (sym c.self.view_is) c.requires.owned.1 in
    first_alone node c.self.invariant key c.args.block first

pub returns : goal.returns
returns c = λ key whose.
    let node = data_of c.self.inside in
    let first = subst (λ (n : NodeData). FirstBlock (store_of n) key c.args.block) (sym c.self.view_is) whose in
    let within = first_within (store_of node) key c.args.block c.args.i first c.requires.within in
    let read : (b : ℕ) → slice_get first.row.blocks (c.args.i / 128) ≡ Some b →
    word_at (kind_of node.memory) node.memory (block_word_at b (c.args.i % 128)) ≡ Some c.word_of.result =
    λ b e. c.word_of.ensures b (in_first first.row.blocks c.args.block b (c.args.i / 128) (omega arith) first.first e) in
    subst (λ (n : NodeData). WordIs (store_of n) key c.args.i c.word_of.result) c.self.view_is
    (word_read node c.self.invariant key first.row c.args.i c.word_of.result first.there within read)
