use Rattle.std.proofs.Common.{◌≡◌, ◌<◌, ◌/◌, ◌%◌, List, ℕ, length, Some, sym, subst, arith}
use Rattle.std.specs.List.{AllByRecursion}
use Rattle.std.specs.Prelude.{slice_get}
use Rattle.ec_base.proofs.Lists.{get_there}
use Rattle.ec_memory.specs.Words.{block_word_at}
use Rattle.ec_world.specs.declared.key.Key.TheVariants.{Object as OfObject}
use Rattle.ec_stores.specs.Changes.{OwnsWord, WritesWord}
use Rattle.ec_stores.specs.Inside.{data_of}
use Rattle.ec_stores.specs.Memory.{held, kind_of, WritesAt}
use Rattle.ec_stores.specs.Node.{NodeData, object_in, owned_object, store_of}
use Rattle.ec_stores.proofs.Comings.{found_is}
use Rattle.ec_stores.proofs.Placing.{its_in}
use Rattle.ec_stores.proofs.Writing.{laid_same, owned_within, with_memory, writes_word}
use Rattle.ec_stores.proofs.node.NodeStore.set_object_word.Goals as goal

pub set_word_of-requires-clause-blocks_in : goal.set_word_of-requires-clause-blocks_in
set_word_of-requires-clause-blocks_in c =
    let node = data_of c.self.inside in
    let row = c.in-Some.row.now in
    let found = found_is (owned_object c.args.oid) (object_in node.objects c.args.oid) row c.in-Some.ensures.value in
    subst (λ (l : List ℕ). AllByRecursion (λ b. b < length (held node.memory).links) l) (sym c.as_slice.ensures)
    (its_in node c.self.invariant (OfObject c.args.oid) (owned_object c.args.oid row) found)

pub invariant_of-self : goal.invariant_of-self
invariant_of-self c = laid_same (data_of c.self.inside) c.set_word_of.new.memory c.self.invariant c.set_word_of.ensures.same

pub returns : goal.returns
returns c =
    let node = data_of c.self.inside in
    let row = c.in-Some.row.now in
    let found = found_is (owned_object c.args.oid) (object_in node.objects c.args.oid) row c.in-Some.ensures.value in
    let few = c.ranges.word in
    let within = owned_within node (OfObject c.args.oid) (owned_object c.args.oid row) c.args.i found
    (subst (λ (n : NodeData). OwnsWord (store_of n) (OfObject c.args.oid) c.args.i) (sym c.self.view_is) c.requires) in
    let b = get_there (owned_object c.args.oid row).blocks (c.args.i / 128) (omega arith) in
    let writes : (b : ℕ) → slice_get (owned_object c.args.oid row).blocks (c.args.i / 128) ≡ Some b →
    WritesAt (kind_of node.memory) node.memory c.set_word_of.new.memory (block_word_at b (c.args.i % 128)) c.args.word =
    subst (λ (l : List ℕ). (b : ℕ) → slice_get l (c.args.i / 128) ≡ Some b →
    WritesAt (kind_of node.memory) node.memory c.set_word_of.new.memory (block_word_at b (c.args.i % 128)) c.args.word)
    c.as_slice.ensures c.set_word_of.ensures.writes in
    subst (λ (n : NodeData). WritesWord (store_of n) (store_of (with_memory node c.set_word_of.new.memory)) (OfObject c.args.oid)
    c.args.i c.args.word)
    c.self.view_is
    (writes_word node c.set_word_of.new.memory c.self.invariant c.set_word_of.ensures.same c.args.word (omega arith)
    (OfObject c.args.oid) (owned_object c.args.oid row)
    c.args.i b.0 found b.1 (writes b.0 b.1))
