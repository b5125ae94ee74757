-- One word of an owner is written, or a constant.
use Rattle.std.proofs.Common.{◌≡◌, ◌≢◌, ℕ, ◌+◌, ◌-◌, ◌*◌, ◌/◌, ◌%◌, ◌^◌, ◌<◌, ◌≤◌, ◌⊎◌, inl, inr, ⊎_elim, List, [], ◌∷◌, length, Option, Some, None, refl}
use Rattle.std.proofs.Common.{sym, ap, ◌∙◌}
use Rattle.std.proofs.Common.{subst, arith, zero, suc, true, cond}
use Rattle.std.specs.Prelude.{slice_get, IsSome, nat_le}
use Rattle.std.specs.Option.{option_map}
use Rattle.std.proofs.lemmas.Bool.{cases_lt}
use Rattle.ec_base.proofs.Lists.{get_there}
use Rattle.ec_base.specs.Bytes.{bytes_from}
use Rattle.ec_memory.specs.Store.{Store as Memory, blocks_base, globals_base, store_byte}
use Rattle.ec_memory.specs.Words.{HasWord, block_word_at, global_word_at}
use Rattle.ec_memory.proofs.Places.{block_global_apart, block_word_even, global_word_even, same_block_word, same_global_word}
use Rattle.ec_memory.proofs.Whole.{whole_same}
use Rattle.ec_memory.proofs.Words.{byte_other, each_there}
use Rattle.ec_world.specs.declared.key.Key.{Key}
use Rattle.ec_things.specs.Store.{Owned, word_of, word_in as word_in_store}
use Rattle.ec_world.specs.Group.{Has}
use Rattle.ec_stores.specs.Changes.{OwnsWord, WordIs, WritesGlobal, WritesWord}
use Rattle.ec_stores.specs.Memory.{byte_in, bytes_of, held, kind_of, number_of, word_at, SameMemory, WritesAt}
use Rattle.ec_stores.specs.Node.{KeepsBytes, Laid, NodeData, row_of, store_of}
use Rattle.ec_stores.specs.declared.memory.NodeMemory.{NodeMemory}
use Rattle.ec_stores.proofs.Owned.{owned_alike, same_alike}
use Rattle.ec_stores.proofs.Written.{length_of, written_here, written_other}

abbrev pub with_memory : NodeData → NodeMemory → NodeData
with_memory node m = record node { memory = m }

module _ (node : NodeData) (m : NodeMemory) (laid : Laid node) (same : SameMemory node.memory m) where
  -- bytes alone have changed
  pub laid_same : Laid (with_memory node m)
  laid_same = record {
    order = same.kind ∙ laid.order;
    whole = whole_same (held node.memory) (held m) laid.whole same.lists;
    owners = owned_alike (row_of node) (row_of node) (held node.memory) (held m) laid.owners
        (ap (λ (l : List ℕ). length l) same.lists.links) (λ b h. subst (λ (l : List ℕ). Has l b) same.lists.free h)
        (same_alike (row_of node) (row_of node) (λ key. refl));
    locals = laid.locals;
    texts = laid.texts;
    filled = laid.filled;
  }

  same_room : length (held m).links ≡ length (held node.memory).links
  same_room = ap (λ (l : List ℕ). length l) same.lists.links

  same_free : length (held m).free ≡ length (held node.memory).free
  same_free = ap (λ (l : List ℕ). length l) same.lists.free

  module _ (w : ℕ) (few : w < 2 ^ 32) where
    -- as the node's kind writes
    by_kind : (at : ℕ) → WritesAt (kind_of node.memory) node.memory m at w → WritesAt node.kind node.memory m at w
    by_kind at h = subst (λ k. WritesAt k node.memory m at w) laid.order h

    module _ (key : Key) (r : Owned) (i b : ℕ) (found : row_of node key ≡ Some r) (there : slice_get r.blocks (i / 128) ≡ Some b)
        (writes : WritesAt (kind_of node.memory) node.memory m (block_word_at b (i % 128)) w) where
      at : ℕ
      at = block_word_at b (i % 128)

      bytes : WritesAt node.kind node.memory m (block_word_at b (i % 128)) w
      bytes = by_kind (block_word_at b (i % 128)) writes

      owns : Has r.blocks b
      owns = record { at = i / 128; is = there }

      small : b < 65536
      small = (let l = laid.owners.within key r b found owns in let f = laid.whole.few_blocks in omega arith)

      -- another word of a block
      other : (c j : ℕ) → j < 128 → (c ≡ b → j ≡ i % 128 → ⊥) →
          word_at node.kind m (block_word_at c j) ≡ word_at node.kind node.memory (block_word_at c j)
      other c j hj ne = written_other node.kind node.memory m (block_word_at b (i % 128)) w bytes (block_word_at c j)
          (block_word_even c j)
          (block_word_even b (i % 128)) (λ e. let x = same_block_word c b j (i % 128) hj (omega arith) e in ne x.0 x.1)

      word_by : (n : NodeData) (j c : ℕ) → slice_get r.blocks (j / 128) ≡ Some c →
          word_of (store_of n) r.blocks j ≡ word_at n.kind n.memory (block_word_at c (j % 128))
      word_by n j c e = ap (λ (o : Option ℕ). word_in_store (store_of n) o (j % 128)) e

      its : (q : Owned) (j : ℕ) → row_of node key ≡ Some q → j < 128 * length q.blocks → j ≢ i →
          word_of (store_of (with_memory node m)) q.blocks j ≡ word_of (store_of node) q.blocks j
      its q j e l ne =
          let same_row : r ≡ q = cc in
          subst (λ (o : Owned). word_of (store_of (with_memory node m)) o.blocks j ≡ word_of (store_of node) o.blocks j) same_row
          (its_own j (let n = ap (λ (o : Owned). length o.blocks) same_row in omega arith) ne)
        where
          its_own : (j : ℕ) → j < 128 * length r.blocks → j ≢ i →
              word_of (store_of (with_memory node m)) r.blocks j ≡ word_of (store_of node) r.blocks j
          its_own j l ne =
              let c = get_there r.blocks (j / 128) (omega arith) in
              word_by (with_memory node m) j c.0 c.1
              ∙ other c.0 (j % 128) (omega arith) (λ e f.
              let place = laid.owners.once key r found (j / 128) (i / 128) b (c.1 ∙ ap Some e) there in
              ne (omega arith))
              ∙ sym (word_by node j c.0 c.1)

      pub writes_word : WritesWord (store_of node) (store_of (with_memory node m)) key i w
      writes_word = record {
        here = record {
          row = r;
          there = found;
          is = word_by (with_memory node m) i b there
              ∙ written_here node.kind node.memory m (block_word_at b (i % 128)) w bytes few;
        };
        its = its;
        others = λ o ne. record {
          row = refl;
          words = λ q c j e h l. other c j l (λ is place.
              ne (laid.owners.apart o key q r c e found h (subst (λ x. Has r.blocks x) (sym is) owns)));
        };
        rows = λ o. refl;
        rest = record {
          kind = refl;
          global = λ j. written_other node.kind node.memory m (block_word_at b (i % 128)) w bytes (global_word_at j) (global_word_even j)
              (block_word_even b (i % 128)) (λ e. block_global_apart b (i % 128) j small (omega arith) (sym e));
          local = λ j. refl;
          text = λ j. refl;
          room = same_room;
          text_room = refl;
          text_free = refl;
          count = refl;
        };
        free = same_free;
      }

      length_is : length (bytes_of node.kind 4 w) ≡ 4
      length_is = length_of node.kind 4 w

      untouched : (a : ℕ) → (a < block_word_at b (i % 128)) ⊎ (block_word_at b (i % 128) + length (bytes_of node.kind 4 w) ≤ a) →
          byte_in m a ≡ byte_in node.memory a
      untouched a out = ap (λ (f : ℕ → Option ℕ). f a) bytes
          ∙ byte_other (byte_in node.memory) (block_word_at b (i % 128)) (bytes_of node.kind 4 w) a out

      -- a byte that is in no word but those that aren't written
      pub keeps_bytes : KeepsBytes node (with_memory node m) key (λ j. j ≢ i)
      keeps_bytes = record {
        bytes = λ a kept.
            untouched a
            (⊎_elim (λ below. inl below)
            (λ from.
            ⊎_elim (λ within. absurd (kept i (record { row = r; there = found; block = b; is = there; from = from; below = within }) refl))
            (λ behind. inr (let long = length_is in omega arith)) (cases_lt a (block_word_at b (i % 128) + 4)))
            (cases_lt a (block_word_at b (i % 128))));
        lists = same;
      }

    pub writes_global : (i : ℕ) → WritesAt (kind_of node.memory) node.memory m (global_word_at i) w →
        WritesGlobal (store_of node) (store_of (with_memory node m)) i w
    writes_global i written =
        let bytes = by_kind (global_word_at i) written in
        record {
          here = written_here node.kind node.memory m (global_word_at i) w bytes few;
          others = λ j ne. written_other node.kind node.memory m (global_word_at i) w bytes (global_word_at j) (global_word_even j)
              (global_word_even i) (λ e. ne (same_global_word j i e));
          kept = λ key. record {
            row = refl;
            words = λ q b j e h l. written_other node.kind node.memory m (global_word_at i) w bytes (block_word_at b j)
                (block_word_even b j)
                (global_word_even i) (block_global_apart b j i
                (let n = laid.owners.within key q b e h in let f = laid.whole.few_blocks in omega arith) l);
          };
          kind = refl;
          local = λ j. refl;
          text = λ j. refl;
          room = same_room;
          free = same_free;
          text_room = refl;
          text_free = refl;
          count = refl;
        }

-- ---- a word that is read

-- the row of an owner that has a word i has room for it
pub owned_within : (node : NodeData) (key : Key) (r : Owned) (i : ℕ) → row_of node key ≡ Some r → OwnsWord (store_of node) key i →
    i < 128 * length r.blocks
owned_within node key r i found owns =
    let same : owns.row ≡ r = (let e = owns.there in cc) in
    subst (λ (o : Owned). i < 128 * length o.blocks) same owns.within

pub word_read : (node : NodeData) (laid : Laid node) (key : Key) (r : Owned) (i w : ℕ) → row_of node key ≡ Some r →
    i < 128 * length r.blocks →
    ((b : ℕ) → slice_get r.blocks (i / 128) ≡ Some b → word_at (kind_of node.memory) node.memory (block_word_at b (i % 128)) ≡ Some w) →
    WordIs (store_of node) key i w
word_read node laid key r i w found l read =
    let b = get_there r.blocks (i / 128) (omega arith) in
    record {
      row = r;
      there = found;
      is = ap (λ (o : Option ℕ). word_in_store (store_of node) o (i % 128)) b.1
          ∙ subst (λ k. word_at k node.memory (block_word_at b.0 (i % 128)) ≡ Some w) laid.order (read b.0 b.1);
    }

-- ---- constants that are there

some_bytes : (number : ℕ → List ℕ → ℕ) (o : Option (List ℕ)) → IsSome (option_map (number 4) o) → IsSome o
some_bytes number None h = absurd (cc)
some_bytes number (Some bs) h = refl

pub has_global : (node : NodeData) (i : ℕ) → IsSome ((store_of node).global i) → HasWord (byte_in node.memory) (global_word_at i)
has_global node i h = some_bytes (number_of node.kind) (bytes_from (byte_in node.memory) (global_word_at i) 4) h

some_within : {A : Type 0} (xs : List A) (i : ℕ) → IsSome (slice_get xs i) → i < length xs
some_within [] i h = absurd (cc)
some_within (x ∷ xs) zero h = omega arith
some_within (x ∷ xs) (suc i) h = let t = some_within xs i h in omega arith

-- the bytes of constants, wherever they would lie
global_byte : (s : Memory) (k : ℕ) → store_byte s (globals_base + k) ≡ slice_get s.globals k
global_byte s k =
    let there : nat_le globals_base (globals_base + k) ≡ true = grind arith in
    let back : globals_base + k - globals_base ≡ k = omega arith in
    ap (λ b. cond b (slice_get s.globals (globals_base + k - globals_base))
    (cond (nat_le blocks_base (globals_base + k)) (slice_get s.blocks (globals_base + k - blocks_base)) None)) there
    ∙ ap (slice_get s.globals) back

-- a constant that is there is one of the 1,048,576 that there may be
pub few_global : (node : NodeData) (i : ℕ) → Laid node → IsSome ((store_of node).global i) → i < 1048576
few_global node i laid h =
    let e : global_word_at i + 0 ≡ globals_base + 4 * i = omega arith in
    let byte : IsSome (byte_in node.memory (global_word_at i + 0)) =
    each_there (byte_in node.memory) (global_word_at i) 4 (has_global node i h) 0 (omega arith) in
    let there : IsSome (slice_get (held node.memory).globals (4 * i)) =
    subst (λ (o : Option ℕ). IsSome o) (ap (byte_in node.memory) e ∙ global_byte (held node.memory) (4 * i)) byte in
    let l = some_within (held node.memory).globals (4 * i) there in
    let f = laid.whole.few_globals in
    omega arith

-- ---- a native run

-- bytes and count have changed
pub laid_ran : (node : NodeData) (m : NodeMemory) (count : ℕ) → Laid node → SameMemory node.memory m →
    Laid (record node { memory = m; count = count })
laid_ran node m count laid same =
    let l = laid_same node m laid same in
    record { order = l.order; whole = l.whole; owners = l.owners; locals = l.locals; texts = l.texts; filled = l.filled }
