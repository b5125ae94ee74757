-- Words of one owner are written, one after another.
use Rattle.std.proofs.Common.{◌≡◌, ◌≢◌, ℕ, ◌*◌, ◌/◌, ◌%◌, ◌<◌, List, [], ◌∷◌, length, Option, Some, refl, sym, ap, ◌∙◌, arith}
use Rattle.std.specs.Prelude.{slice_get}
use Rattle.std.proofs.lemmas.Option.{same_Some}
use Rattle.ec_world.specs.declared.key.Key.{Key}
use Rattle.ec_world.specs.declared.key.Key.TheVariants.{Frame}
use Rattle.ec_stores.specs.Changes.{FirstBlock, OwnsWord, SameRest, WordIs, WritesWord}
use Rattle.ec_stores.specs.Memory.{same_memory, same_memory_on}
use Rattle.ec_stores.specs.Node.{IsInWord, KeepsBytes, NodeData, row_of}
use Rattle.ec_things.specs.Store.{KeptRow, Owned, Store, word_in, word_of}
use Rattle.ec_legs.specs.Words.{IsFrame, KeepsWords}

-- ---- what stays

rest_on : (s m s' : Store) → SameRest s m → SameRest m s' → SameRest s s'
rest_on s m s' a b = record {
  kind = b.kind ∙ a.kind;
  global = λ i. b.global i ∙ a.global i;
  local = λ i. b.local i ∙ a.local i;
  text = λ i. b.text i ∙ a.text i;
  room = b.room ∙ a.room;
  text_room = b.text_room ∙ a.text_room;
  text_free = b.text_free ∙ a.text_free;
  count = b.count ∙ a.count;
}

row_on : (s m s' : Store) (key : Key) → KeptRow s m key → KeptRow m s' key → KeptRow s s' key
row_on s m s' key a b = record {
  row = b.row ∙ a.row;
  words = λ r x i e h l. b.words r x i (a.row ∙ e) h l ∙ a.words r x i e h l;
}

pub keeps_none : (s : Store) (key : Key) (IsKept : ℕ → Type 0) → KeepsWords s s key IsKept
keeps_none s key IsKept = record {
  its = λ r j e l h. refl;
  others = λ other ne. record { row = refl; words = λ r b i e h l. refl };
  rows = λ other. refl;
  rest = record {
    kind = refl;
    global = λ i. refl;
    local = λ i. refl;
    text = λ i. refl;
    room = refl;
    text_room = refl;
    text_free = refl;
    count = refl;
  };
  free = refl;
}

pub keeps_on : (s m s' : Store) (key : Key) (IsKept : ℕ → Type 0) → KeepsWords s m key IsKept → KeepsWords m s' key IsKept →
    KeepsWords s s' key IsKept
keeps_on s m s' key IsKept a b = record {
  its = λ r j e l h. b.its r j (a.rows key ∙ e) l h ∙ a.its r j e l h;
  others = λ other ne. row_on s m s' other (a.others other ne) (b.others other ne);
  rows = λ other. b.rows other ∙ a.rows other;
  rest = rest_on s m s' a.rest b.rest;
  free = b.free ∙ a.free;
}

pub keeps_written : (s s' : Store) (key : Key) (i w : ℕ) (IsKept : ℕ → Type 0) → WritesWord s s' key i w →
    ((j : ℕ) → IsKept j → j ≢ i) → KeepsWords s s' key IsKept
keeps_written s s' key i w IsKept writes out = record {
  its = λ r j e l h. writes.its r j e l (out j h);
  others = writes.others;
  rows = writes.rows;
  rest = writes.rest;
  free = writes.free;
}

-- fewer words are said to be kept
pub keeps_fewer : (s s' : Store) (key : Key) (IsKept IsLess : ℕ → Type 0) → KeepsWords s s' key IsKept →
    ((j : ℕ) → IsLess j → IsKept j) → KeepsWords s s' key IsLess
keeps_fewer s s' key IsKept IsLess keeps less = record {
  its = λ r j e l h. keeps.its r j e l (less j h);
  others = keeps.others;
  rows = keeps.rows;
  rest = keeps.rest;
  free = keeps.free;
}

-- ---- the bytes

pub bytes_none : (n : NodeData) (key : Key) (IsKept : ℕ → Type 0) → KeepsBytes n n key IsKept
bytes_none n key IsKept = record { bytes = λ a h. refl; lists = same_memory n.memory }

pub bytes_fewer : (n n' : NodeData) (key : Key) (IsKept IsLess : ℕ → Type 0) → KeepsBytes n n' key IsKept →
    ((j : ℕ) → IsLess j → IsKept j) → KeepsBytes n n' key IsLess
bytes_fewer n n' key IsKept IsLess keeps less = record {
  bytes = λ a h. keeps.bytes a (λ i within. less i (h i within));
  lists = keeps.lists;
}

-- an owner's words lie where they lay
same_place : (n n' : NodeData) (key : Key) (i a : ℕ) → row_of n' key ≡ row_of n key → IsInWord n' key i a → IsInWord n key i a
same_place n n' key i a rows within = record {
  row = within.row;
  there = sym rows ∙ within.there;
  block = within.block;
  is = within.is;
  from = within.from;
  below = within.below;
}

pub bytes_on : (n m n' : NodeData) (key : Key) (IsKept : ℕ → Type 0) → row_of m key ≡ row_of n key → KeepsBytes n m key IsKept →
    KeepsBytes m n' key IsKept → KeepsBytes n n' key IsKept
bytes_on n m n' key IsKept rows p q = record {
  bytes = λ a h. q.bytes a (λ i within. h i (same_place n m key i a rows within)) ∙ p.bytes a h;
  lists = same_memory_on n.memory m.memory n'.memory p.lists q.lists;
}

-- ---- the words of an activation

pub same_row : (s : Store) (key : Key) (r q : Owned) → s.row key ≡ Some r → s.row key ≡ Some q → r ≡ q
same_row s key r q e f = same_Some r q (sym e ∙ f)

module _ (s : Store) (process depth : ℕ) (frame : IsFrame s process depth) where
  pub within_frame : (r : Owned) (j : ℕ) → s.row (Frame process depth) ≡ Some r → j < 128 → j < 128 * length r.blocks
  within_frame r j e l =
      let same = ap (λ (o : Owned). length o.blocks) (same_row s (Frame process depth) r frame.row e frame.there) in
      let one = frame.one in
      omega arith

  pub owns_word : (j : ℕ) → j < 128 → OwnsWord s (Frame process depth) j
  owns_word j l = record { row = frame.row; there = frame.there; within = within_frame frame.row j frame.there l }

  -- a word that is kept
  pub word_kept : (s' : Store) (IsKept : ℕ → Type 0) (j w : ℕ) → KeepsWords s s' (Frame process depth) IsKept → IsKept j → j < 128 →
      WordIs s (Frame process depth) j w → WordIs s' (Frame process depth) j w
  word_kept s' IsKept j w keeps kept l is = record {
    row = is.row;
    there = keeps.rows (Frame process depth) ∙ is.there;
    is = keeps.its is.row j is.there (within_frame is.row j is.there l) kept ∙ is.is;
  }

pub frame_kept : (s s' : Store) (process depth : ℕ) (key : Key) (IsKept : ℕ → Type 0) → KeepsWords s s' key IsKept →
    IsFrame s process depth → IsFrame s' process depth
frame_kept s s' process depth key IsKept keeps frame = record {
  row = frame.row;
  there = keeps.rows (Frame process depth) ∙ frame.there;
  one = frame.one;
}

pub frame_written : (s s' : Store) (process depth : ℕ) (key : Key) (i w : ℕ) → WritesWord s s' key i w → IsFrame s process depth →
    IsFrame s' process depth
frame_written s s' process depth key i w writes frame = record {
  row = frame.row;
  there = writes.rows (Frame process depth) ∙ frame.there;
  one = frame.one;
}

-- a word of an owner is one
pub one_word : (s : Store) (key : Key) (i v w : ℕ) → WordIs s key i v → WordIs s key i w → v ≡ w
one_word s key i v w a b =
    let same = same_row s key a.row b.row a.there b.there in
    same_Some v w (sym a.is ∙ ap (λ (o : Owned). word_of s o.blocks i) same ∙ b.is)

pub one_block : (s : Store) (key : Key) (b c : ℕ) → FirstBlock s key b → FirstBlock s key c → b ≡ c
one_block s key b c f g =
    let same = same_row s key f.row g.row f.there g.there in
    same_Some b c (sym f.first ∙ ap (λ (o : Owned). slice_get o.blocks 0) same ∙ g.first)

-- ---- the first block of an owner

pub word_of_first : (s : Store) (blocks : List ℕ) (b i : ℕ) → slice_get blocks 0 ≡ Some b → i < 128 → word_of s blocks i ≡ s.word b i
word_of_first s blocks b i first l =
    let none : i / 128 ≡ 0 = omega arith in
    let all : i % 128 ≡ i = omega arith in
    ap (λ j. word_in s (slice_get blocks j) (i % 128)) none ∙ ap (λ (o : Option ℕ). word_in s o (i % 128)) first ∙ ap (s.word b) all

-- one block is the first
pub first_of_one : (blocks : List ℕ) → length blocks ≡ 1 → (b : ℕ) × (slice_get blocks 0 ≡ Some b)
first_of_one [] e = absurd (omega arith)
first_of_one (b ∷ bs) e = (b, refl)

-- an owner's first block stays the same
pub first_kept : (s s' : Store) (of key : Key) (block : ℕ) (IsKept : ℕ → Type 0) → KeepsWords s s' of IsKept → FirstBlock s key block →
    FirstBlock s' key block
first_kept s s' of key block IsKept keeps first = record {
  row = first.row;
  there = keeps.rows key ∙ first.there;
  first = first.first;
}

pub first_written : (s s' : Store) (of key : Key) (block i w : ℕ) → WritesWord s s' of i w → FirstBlock s key block → FirstBlock s' key block
first_written s s' of key block i w writes first = record {
  row = first.row;
  there = writes.rows key ∙ first.there;
  first = first.first;
}
