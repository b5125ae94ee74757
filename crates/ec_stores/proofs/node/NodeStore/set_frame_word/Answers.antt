use Rattle.std.proofs.Common.{◌≡◌, ◌≢◌, ◌/◌, ◌%◌, ℕ, Some, sym, subst, arith}
use Rattle.std.specs.Prelude.{slice_get}
use Rattle.ec_base.proofs.Lists.{get_there}
use Rattle.ec_memory.specs.Words.{block_word_at}
use Rattle.ec_world.specs.declared.key.Key.TheVariants.{Frame as OfFrame}
use Rattle.ec_stores.specs.Changes.{OwnsWord, WritesWord}
use Rattle.ec_stores.specs.Inside.{data_of}
use Rattle.ec_stores.specs.Memory.{kind_of, WritesAt}
use Rattle.ec_stores.specs.Node.{KeepsBytes, NodeData, owned_frame, store_of}
use Rattle.ec_stores.specs.Tables.{frame_in}
use Rattle.ec_stores.proofs.Comings.{found_is}
use Rattle.ec_stores.proofs.Placing.{its_in}
use Rattle.ec_stores.proofs.Writing.{keeps_bytes, laid_same, owned_within, with_memory, writes_word}
use Rattle.ec_stores.proofs.node.NodeStore.set_frame_word.Goals as goal

pub set_word_of-requires-clause-blocks_in : goal.set_word_of-requires-clause-blocks_in
set_word_of-requires-clause-blocks_in c =
    let node = data_of c.self.inside in
    let row = c.in-Some.row in
    let found = found_is owned_frame (frame_in node.frames c.args.process c.args.depth) row c.in-Some.ensures in
    its_in node c.self.invariant (OfFrame c.args.process c.args.depth) (owned_frame row) found

pub invariant_of-self : goal.invariant_of-self
invariant_of-self c = laid_same (data_of c.self.inside) c.set_word_of.new.memory c.self.invariant c.set_word_of.ensures.same

pub returns-clause-writes : goal.returns-clause-writes
returns-clause-writes c =
    let node = data_of c.self.inside in
    let row = c.in-Some.row in
    let found = found_is owned_frame (frame_in node.frames c.args.process c.args.depth) row c.in-Some.ensures in
    let few = c.ranges.word in
    let within = owned_within node (OfFrame c.args.process c.args.depth) (owned_frame row) c.args.i found
    (subst (λ (n : NodeData). OwnsWord (store_of n) (OfFrame c.args.process c.args.depth) c.args.i) (sym c.self.view_is) c.requires) in
    let b = get_there (owned_frame row).blocks (c.args.i / 128) (omega arith) in
    let writes : (b : ℕ) → slice_get (owned_frame row).blocks (c.args.i / 128) ≡ Some b →
    WritesAt (kind_of node.memory) node.memory c.set_word_of.new.memory (block_word_at b (c.args.i % 128)) c.args.word =
    c.set_word_of.ensures.writes in
    subst (λ (n : NodeData). WritesWord (store_of n) (store_of (with_memory node c.set_word_of.new.memory))
    (OfFrame c.args.process c.args.depth) c.args.i c.args.word)
    c.self.view_is
    (writes_word node c.set_word_of.new.memory c.self.invariant c.set_word_of.ensures.same c.args.word (omega arith)
    (OfFrame c.args.process c.args.depth) (owned_frame row)
    c.args.i b.0 found b.1 (writes b.0 b.1))

pub returns-clause-bytes : goal.returns-clause-bytes
returns-clause-bytes c =
    let node = data_of c.self.inside in
    let row = c.in-Some.row in
    let found = found_is owned_frame (frame_in node.frames c.args.process c.args.depth) row c.in-Some.ensures in
    let few = c.ranges.word in
    let within = owned_within node (OfFrame c.args.process c.args.depth) (owned_frame row) c.args.i found
    (subst (λ (n : NodeData). OwnsWord (store_of n) (OfFrame c.args.process c.args.depth) c.args.i) (sym c.self.view_is) c.requires) in
    let b = get_there (owned_frame row).blocks (c.args.i / 128) (omega arith) in
    let writes : (b : ℕ) → slice_get (owned_frame row).blocks (c.args.i / 128) ≡ Some b →
    WritesAt (kind_of node.memory) node.memory c.set_word_of.new.memory (block_word_at b (c.args.i % 128)) c.args.word =
    c.set_word_of.ensures.writes in
    subst (λ (n : NodeData). KeepsBytes n (with_memory node c.set_word_of.new.memory)
    (OfFrame c.args.process c.args.depth) (λ j. j ≢ c.args.i))
    c.self.view_is
    (keeps_bytes node c.set_word_of.new.memory c.self.invariant c.set_word_of.ensures.same c.args.word (omega arith)
    (OfFrame c.args.process c.args.depth) (owned_frame row)
    c.args.i b.0 found b.1 (writes b.0 b.1))
