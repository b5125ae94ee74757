-- An owner comes to a node or goes from it.
use Rattle.std.proofs.Common.{◌≡◌, ◌≢◌, ℕ, ◌+◌, ◌*◌, ◌/◌, ◌%◌, ◌<◌, ◌≤◌, List, length, Option, Some, None, refl, sym, ap, ◌∙◌}
use Rattle.std.proofs.Common.{subst, arith}
use Rattle.std.specs.Prelude.{slice_get}
use Rattle.std.specs.List.{AllByRecursion}
use Rattle.ec_base.proofs.Lists.{get_there, get_within}
use Rattle.ec_memory.specs.Store.{IsWhole}
use Rattle.ec_memory.specs.Words.{block_word_at, global_word_at}
use Rattle.ec_memory.proofs.Words.{word_there}
use Rattle.ec_memory.proofs.Places.{block_word_there, block_word_even, global_word_even, same_block_word, block_global_apart}
use Rattle.ec_memory.proofs.Whole.{whole_same}
use Rattle.ec_world.specs.declared.key.Key.{Key}
use Rattle.ec_things.specs.Store.{Owned, Tidy, word_of, word_in as word_in_store}
use Rattle.ec_things.specs.Things.{row_size}
use Rattle.ec_world.specs.Group.{Has}
use Rattle.ec_stores.specs.Changes.{Closed, Placed}
use Rattle.ec_stores.specs.Lists.{FilledList, GivesList, IsOnce, TakesList, WrittenList}
use Rattle.ec_stores.specs.Memory.{held, byte_in, kind_of, number_of, word_at}
use Rattle.ec_stores.specs.Node.{AreOwned, Laid, NodeData, blocks_by, row_of, store_of}
use Rattle.ec_stores.specs.declared.memory.NodeMemory.{NodeMemory}
use Rattle.ec_stores.specs.declared.rows.FrameRow.{FrameRow}
use Rattle.ec_stores.specs.declared.rows.ObjectRow.{ObjectRow}
use Rattle.ec_stores.proofs.Blocks.{list_not_free, list_once, list_still_free, list_was_free, list_whole, list_within}
use Rattle.ec_stores.proofs.Numbers.{all_from, length_both}
use Rattle.ec_stores.proofs.Owned.{owned_alike, owned_less, owned_more, same_alike}
use Rattle.ec_stores.proofs.Written.{same_word}

-- what every store of a node keeps
pub tidy_laid : (node : NodeData) → Laid node → Tidy (store_of node)
tidy_laid node laid = record {
  apart = laid.owners.apart;
  nil = refl;
  locals = laid.locals;
  texts = laid.texts;
  filled = record {
    texts = node.pool.texts;
    once = record { once = laid.texts };
    these = λ text. (λ h. (h.at, h.is), λ h. record { at = h.0; is = h.1 });
    bytes = laid.filled;
  };
}

-- a node whose memory and owners alone have changed
abbrev pub with_owners : NodeData → NodeMemory → List (ℕ × ObjectRow) → List ((ℕ × ℕ) × FrameRow) → NodeData
with_owners node m objects frames = record node { memory = m; objects = objects; frames = frames }

module _ (node : NodeData) (m : NodeMemory) (objects : List (ℕ × ObjectRow)) (frames : List ((ℕ × ℕ) × FrameRow)) (laid : Laid node) where
  abbrev after : NodeData
  after = with_owners node m objects frames

  pub laid_owners : kind_of m ≡ kind_of node.memory → IsWhole (held m) → AreOwned (row_of after) (held m) → Laid after
  laid_owners kind whole owners = record {
    order = kind ∙ laid.order;
    whole = whole;
    owners = owners;
    locals = laid.locals;
    texts = laid.texts;
    filled = laid.filled;
  }

  -- ---- an owner comes

  module _ (key : Key) (r : Owned) (given : List ℕ) (new : row_of node key ≡ None) (here : row_of after key ≡ Some r)
      (there : (other : Key) → other ≢ key → row_of after other ≡ row_of node other)
      (filled : FilledList node.memory m r.blocks given) (short : length given ≤ 128 * length r.blocks)
      (counted : length r.blocks ≡ blocks_by r.class r.size) where
    taken : NodeMemory
    taken = filled.between

    whole_after : IsWhole (held m)
    whole_after = whole_same (held filled.between) (held m) (list_whole node.memory filled.between r.blocks filled.takes laid.whole)
        filled.written.same.lists

    links_after : length (held m).links ≡ length (held node.memory).links
    links_after = ap (λ (l : List ℕ). length l) (filled.written.same.lists.links ∙ filled.takes.links)

    free_after : (b : ℕ) → Has (held m).free b → Has (held filled.between).free b
    free_after b h = subst (λ (l : List ℕ). Has l b) filled.written.same.lists.free h

    within : (b : ℕ) → Has r.blocks b → b < length (held m).links
    within b h = subst (λ n. b < n) (sym links_after) (list_within node.memory filled.between r.blocks filled.takes laid.whole b h)

    pub laid_placed : Laid after
    laid_placed = laid_owners (filled.written.same.kind ∙ filled.takes.kind) whole_after
        (owned_more (row_of node) (row_of after) (held node.memory) (held m) key r laid.owners here there links_after
        (list_was_free node.memory filled.between r.blocks filled.takes laid.whole) within
        (list_once node.memory filled.between r.blocks filled.takes laid.whole)
        (λ b h. list_still_free node.memory filled.between r.blocks filled.takes laid.whole b (free_after b h))
        (λ b h f. list_not_free node.memory filled.between r.blocks filled.takes laid.whole b h (free_after b f)) counted)

    -- the words are written in the order of the node's kind
    written : WrittenList node.kind filled.between m r.blocks given (length given)
    written = subst (λ k. WrittenList k filled.between m r.blocks given (length given)) (filled.takes.kind ∙ laid.order) filled.written

    -- words of other blocks
    other_word : (c i : ℕ) → (Has r.blocks c → ⊥) → i < 128 →
        word_at node.kind m (block_word_at c i) ≡ word_at node.kind node.memory (block_word_at c i)
    other_word c i out l =
        written.outside (block_word_at c i) (block_word_even c i) (λ j b h e q. out
        (record { at = j / 128; is = e ∙ ap Some (sym (same_block_word c b i (j % 128) l (omega arith) q).0) }))
        ∙ same_word node.kind node.memory filled.between (block_word_at c i) filled.takes.bytes filled.takes.globals

    -- the block of word i
    block_of : (i : ℕ) → i < 128 * length r.blocks → (b : ℕ) × (slice_get r.blocks (i / 128) ≡ Some b)
    block_of i h = get_there r.blocks (i / 128) (omega arith)

    word_by : (i b : ℕ) → slice_get r.blocks (i / 128) ≡ Some b →
        word_of (store_of after) r.blocks i ≡ word_at node.kind m (block_word_at b (i % 128))
    word_by i b e = ap (λ (o : Option ℕ). word_in_store (store_of after) o (i % 128)) e

    small : (b : ℕ) → Has r.blocks b → b < 65536
    small b h = (let w = within b h in let f = whole_after.few_blocks in omega arith)

    pub placed : Placed (store_of node) (store_of after) key r given
    placed = record {
      here = here;
      words = λ i n e.
          let l = get_within given i n e in
          let b = block_of i (omega arith) in
          word_by i b.0 b.1 ∙ written.inside i n b.0 l e b.1;
      there = λ i l.
          let b = block_of i l in
          let w = word_there (number_of node.kind) (byte_in m) (block_word_at b.0 (i % 128))
          (block_word_there (held m) whole_after b.0 (i % 128) (within b.0 (record { at = i / 128; is = b.1 })) (omega arith)) in
          (w.0, word_by i b.0 b.1 ∙ w.1);
      others = λ other ne. record {
        row = there other ne;
        words = λ q c i e h l. other_word c i
            (λ has. laid.owners.taken other q c e h (list_was_free node.memory filled.between r.blocks filled.takes laid.whole c has)) l;
      };
      rest = record {
        kind = refl;
        global = λ i.
            written.outside (global_word_at i) (global_word_even i)
            (λ j b h e q. block_global_apart b (j % 128) i (small b (record { at = j / 128; is = e })) (omega arith) (sym q))
            ∙ same_word node.kind node.memory filled.between (global_word_at i) filled.takes.bytes filled.takes.globals;
        local = λ i. refl;
        text = λ i. refl;
        room = links_after;
        text_room = refl;
        text_free = refl;
        count = refl;
      };
      free = (let n = ap (λ (l : List ℕ). length l) filled.takes.free in
          let k = ap (λ (l : List ℕ). length l) filled.written.same.lists.free in
          let a = length_both r.blocks (held filled.between).free in omega arith);
      tidy = tidy_laid after laid_placed;
    }

  -- ---- an owner goes

  module _ (key : Key) (r : Owned) (was : row_of node key ≡ Some r) (gone : row_of after key ≡ None)
      (there : (other : Key) → other ≢ key → row_of after other ≡ row_of node other)
      (gives : GivesList node.memory m r.blocks) where
    pub laid_closed : Laid after
    laid_closed = laid_owners gives.kind gives.whole
        (owned_less (row_of node) (row_of after) (held node.memory) (held m) key r laid.owners was gone there gives.sized gives.these)

    pub closed : Closed (store_of node) (store_of after) key
    closed = record {
      gone = gone;
      others = λ other ne. record {
        row = there other ne;
        words = λ q c j e h l. same_word node.kind node.memory m (block_word_at c j) gives.bytes gives.globals;
      };
      rest = record {
        kind = refl;
        global = λ j. same_word node.kind node.memory m (global_word_at j) gives.bytes gives.globals;
        local = λ j. refl;
        text = λ j. refl;
        room = gives.sized;
        text_room = refl;
        text_free = refl;
        count = refl;
      };
      free = gives.many ∙ ap (λ n. length (held node.memory).free + n) (sym (ap row_size was));
      tidy = tidy_laid after laid_closed;
    }

-- ---- what is asked of the blocks of an owner

module _ (node : NodeData) (laid : Laid node) (key : Key) (r : Owned) (found : row_of node key ≡ Some r) where
  pub its_in : AllByRecursion (λ b. b < length (held node.memory).links) r.blocks
  its_in = all_from (λ b. b < length (held node.memory).links) r.blocks (λ b h. laid.owners.within key r b found h)

  pub its_once : IsOnce r.blocks
  its_once = laid.owners.once key r found

  pub its_taken : (b : ℕ) → Has r.blocks b → Has (held node.memory).free b → ⊥
  its_taken b h f = laid.owners.taken key r b found h f

-- ---- blocks have been taken for nobody

module _ (node : NodeData) (m : NodeMemory) (laid : Laid node) where
  pub laid_taken : (blocks : List ℕ) → TakesList node.memory m blocks → Laid (record node { memory = m })
  laid_taken blocks takes = record {
    order = takes.kind ∙ laid.order;
    whole = list_whole node.memory m blocks takes laid.whole;
    owners = owned_alike (row_of node) (row_of node) (held node.memory) (held m) laid.owners
        (ap (λ (l : List ℕ). length l) takes.links) (list_still_free node.memory m blocks takes laid.whole)
        (same_alike (row_of node) (row_of node) (λ key. refl));
    locals = laid.locals;
    texts = laid.texts;
    filled = laid.filled;
  }

  pub laid_filled : (blocks given : List ℕ) → FilledList node.memory m blocks given → Laid (record node { memory = m })
  laid_filled blocks given filled =
      let lists = filled.written.same.lists in
      record {
        order = filled.written.same.kind ∙ filled.takes.kind ∙ laid.order;
        whole = whole_same (held filled.between) (held m) (list_whole node.memory filled.between blocks filled.takes laid.whole) lists;
        owners = owned_alike (row_of node) (row_of node) (held node.memory) (held m) laid.owners
            (ap (λ (l : List ℕ). length l) (lists.links ∙ filled.takes.links))
            (λ b h. list_still_free node.memory filled.between blocks filled.takes laid.whole b
            (subst (λ (l : List ℕ). Has l b) lists.free h))
            (same_alike (row_of node) (row_of node) (λ key. refl));
        locals = laid.locals;
        texts = laid.texts;
        filled = laid.filled;
      }
