use Rattle.std.proofs.Common.{◌≡◌, ◌/◌, ◌%◌, ℕ, Some, sym, subst}
use Rattle.std.specs.Prelude.{slice_get}
use Rattle.ec_memory.specs.Words.{block_word_at}
use Rattle.ec_world.specs.declared.key.Key.TheVariants.{Frame as OfFrame}
use Rattle.ec_stores.specs.Changes.{OwnsWord, WordIs}
use Rattle.ec_stores.specs.Inside.{data_of}
use Rattle.ec_stores.specs.Memory.{kind_of, word_at}
use Rattle.ec_stores.specs.Node.{NodeData, owned_frame, store_of}
use Rattle.ec_stores.specs.Tables.{frame_in}
use Rattle.ec_stores.proofs.Comings.{found_is}
use Rattle.ec_stores.proofs.Placing.{its_in}
use Rattle.ec_stores.proofs.Writing.{owned_within, word_read}
use Rattle.ec_stores.proofs.node.NodeStore.frame_word.Goals as goal

pub word_of-requires-clause-blocks_in : goal.word_of-requires-clause-blocks_in
word_of-requires-clause-blocks_in c =
    let node = data_of c.self.inside in
    let row = c.in-Some.row in
    let found = found_is owned_frame (frame_in node.frames c.args.process c.args.depth) row c.in-Some.ensures in
    its_in node c.self.invariant (OfFrame c.args.process c.args.depth) (owned_frame row) found

pub returns : goal.returns
returns c =
    let node = data_of c.self.inside in
    let row = c.in-Some.row in
    let found = found_is owned_frame (frame_in node.frames c.args.process c.args.depth) row c.in-Some.ensures in
    let within = owned_within node (OfFrame c.args.process c.args.depth) (owned_frame row) c.args.i found
    (subst (λ (n : NodeData). OwnsWord (store_of n) (OfFrame c.args.process c.args.depth) c.args.i) (sym c.self.view_is) c.requires) in
    let read : (b : ℕ) → slice_get (owned_frame row).blocks (c.args.i / 128) ≡ Some b →
    word_at (kind_of node.memory) node.memory (block_word_at b (c.args.i % 128)) ≡ Some c.word_of.result =
    c.word_of.ensures in
    subst (λ (n : NodeData). WordIs (store_of n) (OfFrame c.args.process c.args.depth) c.args.i c.word_of.result) c.self.view_is
    (word_read node c.self.invariant (OfFrame c.args.process c.args.depth) (owned_frame row) c.args.i c.word_of.result found within read)
