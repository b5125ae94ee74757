use Rattle.std.proofs.Common.{◌≡◌, ◌<◌, ◌/◌, ◌%◌, List, ℕ, length, Some, sym, subst}
use Rattle.std.specs.List.{AllByRecursion}
use Rattle.std.specs.Prelude.{slice_get}
use Rattle.ec_memory.specs.Words.{block_word_at}
use Rattle.ec_world.specs.declared.key.Key.TheVariants.{Object as OfObject}
use Rattle.ec_stores.specs.Changes.{OwnsWord, WordIs}
use Rattle.ec_stores.specs.Inside.{data_of}
use Rattle.ec_stores.specs.Memory.{held, kind_of, word_at}
use Rattle.ec_stores.specs.Node.{NodeData, object_in, owned_object, store_of}
use Rattle.ec_stores.proofs.Comings.{found_is}
use Rattle.ec_stores.proofs.Placing.{its_in}
use Rattle.ec_stores.proofs.Writing.{owned_within, word_read}
use Rattle.ec_stores.proofs.node.NodeStore.object_word.Goals as goal

pub word_of-requires-clause-blocks_in : goal.word_of-requires-clause-blocks_in
word_of-requires-clause-blocks_in c =
    let node = data_of c.self.inside in
    let row = c.in-Some.row.now in
    let found = found_is (owned_object c.args.oid) (object_in node.objects c.args.oid) row c.in-Some.ensures.value in
    subst (λ (l : List ℕ). AllByRecursion (λ b. b < length (held node.memory).links) l) (sym c.as_slice.ensures)
    (its_in node c.self.invariant (OfObject c.args.oid) (owned_object c.args.oid row) found)

pub returns : goal.returns
returns c =
    let node = data_of c.self.inside in
    let row = c.in-Some.row.now in
    let found = found_is (owned_object c.args.oid) (object_in node.objects c.args.oid) row c.in-Some.ensures.value in
    let within = owned_within node (OfObject c.args.oid) (owned_object c.args.oid row) c.args.i found
    (subst (λ (n : NodeData). OwnsWord (store_of n) (OfObject c.args.oid) c.args.i) (sym c.self.view_is) c.requires) in
    let read : (b : ℕ) → slice_get (owned_object c.args.oid row).blocks (c.args.i / 128) ≡ Some b →
    word_at (kind_of node.memory) node.memory (block_word_at b (c.args.i % 128)) ≡ Some c.word_of.result =
    subst (λ (l : List ℕ). (b : ℕ) → slice_get l (c.args.i / 128) ≡ Some b →
    word_at (kind_of node.memory) node.memory (block_word_at b (c.args.i % 128)) ≡ Some c.word_of.result) c.as_slice.ensures
    c.word_of.ensures in
    subst (λ (n : NodeData). WordIs (store_of n) (OfObject c.args.oid) c.args.i c.word_of.result) c.self.view_is
    (word_read node c.self.invariant (OfObject c.args.oid) (owned_object c.args.oid row) c.args.i c.word_of.result found within read)
