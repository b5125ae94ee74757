-- Lists of blocks are taken, written and given back one block or word at a time.
use Rattle.std.proofs.Common.{◌≡◌, ◌≢◌, ℕ, ◌+◌, ◌*◌, ◌/◌, ◌%◌, ◌^◌, ◌<◌, ◌≤◌, List, [], ◌∷◌, ◌++◌, length, Some, refl, sym, ap, ◌∙◌}
use Rattle.std.proofs.Common.{subst, arith, inl, inr, ⊎_elim}
use Rattle.std.specs.Prelude.{Err, Ok, OnErr, Result, slice_get}
use Rattle.std.specs.List.{AllByRecursion}
use Rattle.ec_memory.specs.Store.{IsWhole, AreApart, Gives, Takes, chain}
use Rattle.ec_memory.specs.Store as memory
use Rattle.ec_memory.specs.Words.{block_word_at}
use Rattle.ec_memory.proofs.Chains.{chain-one, all_back, apart_back}
use Rattle.ec_memory.proofs.Places.{block_word_even, same_block_word}
use Rattle.ec_memory.proofs.Whole.{few_apart, whole_given}
use Rattle.ec_world.proofs.Keys.{same_or_not}
use Rattle.ec_world.specs.Group.{Has}
use Rattle.ec_world.specs.declared.node.Kind.{Kind}
use Rattle.ec_stores.specs.Memory.{held, word_at, same_memory, same_memory_on, SameMemory, WritesAt, TakesFirst, TakesOne}
use Rattle.ec_stores.specs.Memory.{GivesFirst, GivesOne}
use Rattle.ec_stores.specs.Lists.{IsOnce, TakesList, WrittenList, GivesList}
use Rattle.ec_stores.specs.declared.memory.NodeMemory.{NodeMemory}
use Rattle.ec_stores.proofs.Numbers.{all_from, all_has, apart_both, apart_once, end_of, first_or, has_back, has_front, length_more}
use Rattle.ec_stores.proofs.Written.{written_here, written_other}

-- ---- one block of a memory of one order

pub takes_first : (s t : memory.Store) (b : ℕ) → Takes s t b 1 → TakesFirst s t b
takes_first s t b takes = record {
  free = takes.list ∙ ap (λ (l : List ℕ). l ++ t.free) (chain-one s.links b);
  links = takes.links;
  blocks = takes.blocks;
  globals = takes.globals;
}

module _ (s : memory.Store) (b : ℕ) (whole : IsWhole s) (within : b < length s.links) (taken : Has s.free b → ⊥) where
  apart_from_free : AreApart (b ∷ s.free)
  apart_from_free = (all_from (λ y. b ≢ y) s.free (λ y h e. taken (subst (λ z. Has s.free z) (sym e) h)), whole.apart)

  pub give_in_range : AllByRecursion (λ c. c < length s.links) (chain s.links b 1)
  give_in_range = subst (λ (l : List ℕ). AllByRecursion (λ c. c < length s.links) l) (sym (chain-one s.links b)) (within, tt)

  pub give_apart : AreApart (chain s.links b 1 ++ s.free)
  give_apart = subst (λ (l : List ℕ). AreApart (l ++ s.free)) (sym (chain-one s.links b)) apart_from_free

  pub give_few : 1 + length s.free ≤ length s.links
  give_few = (let few = few_apart (length s.links) (b ∷ s.free) (within, whole.in_range) apart_from_free in omega arith)

  pub gives_first : (t : memory.Store) → Gives s t b 1 → GivesFirst s t b
  gives_first t gives = record {
    whole = whole_given s t b 1 whole give_in_range give_apart gives;
    free = gives.free ∙ ap (λ (l : List ℕ). l ++ s.free) (chain-one s.links b);
    sized = gives.sized;
    blocks = gives.blocks;
    globals = gives.globals;
  }

-- ---- blocks are taken one by one

pub takes_none : (m : NodeMemory) → TakesList m m []
takes_none m = record { kind = refl; free = refl; links = refl; bytes = refl; globals = refl }

pub takes_more : (old m new : NodeMemory) (blocks : List ℕ) (b : ℕ) → TakesList old m blocks → TakesOne m new b →
    TakesList old new (blocks ++ b ∷ [])
takes_more old m new blocks b t u = record {
  kind = u.kind ∙ t.kind;
  free = t.free ∙ ap (λ l. blocks ++ l) u.free ∙ sym (end_of blocks b (held new).free);
  links = u.links ∙ t.links;
  bytes = u.blocks ∙ t.bytes;
  globals = u.globals ∙ t.globals;
}

module _ (old new : NodeMemory) (blocks : List ℕ) (takes : TakesList old new blocks) (whole : IsWhole (held old)) where
  apart_now : AreApart (blocks ++ (held new).free)
  apart_now = subst (λ (l : List ℕ). AreApart l) takes.free whole.apart

  pub list_was_free : (b : ℕ) → Has blocks b → Has (held old).free b
  list_was_free b h = subst (λ (l : List ℕ). Has l b) (sym takes.free) (has_front blocks (held new).free b h)

  pub list_still_free : (b : ℕ) → Has (held new).free b → Has (held old).free b
  list_still_free b h = subst (λ (l : List ℕ). Has l b) (sym takes.free) (has_back blocks (held new).free b h)

  pub list_not_free : (b : ℕ) → Has blocks b → Has (held new).free b → ⊥
  list_not_free b h k = apart_both blocks (held new).free b apart_now h k

  pub list_once : IsOnce blocks
  list_once = apart_once blocks (held new).free apart_now

  pub list_within : (b : ℕ) → Has blocks b → b < length (held old).links
  list_within b h = all_has (λ c. c < length (held old).links) (held old).free b whole.in_range (list_was_free b h)

  pub list_in : AllByRecursion (λ b. b < length (held new).links) blocks
  list_in = all_from (λ b. b < length (held new).links) blocks
      (λ b h. subst (λ (l : List ℕ). b < length l) (sym takes.links) (list_within b h))

  pub list_whole : IsWhole (held new)
  list_whole = record {
    blocks_long = ap (λ (l : List ℕ). length l) takes.bytes ∙ whole.blocks_long ∙ ap (λ (l : List ℕ). 512 * length l) (sym takes.links);
    few_blocks = subst (λ (l : List ℕ). length l ≤ 65536) (sym takes.links) whole.few_blocks;
    few_globals = subst (λ (l : List ℕ). length l ≤ 4194304) (sym takes.globals) whole.few_globals;
    in_range = subst (λ (l : List ℕ). AllByRecursion (λ b. b < length l) (held new).free) (sym takes.links)
        (all_back (λ b. b < length (held old).links) blocks (held new).free
        (subst (λ (f : List ℕ). AllByRecursion (λ b. b < length (held old).links) f) takes.free whole.in_range));
    apart = apart_back blocks (held new).free apart_now;
  }

-- ---- words are written one by one

pub none_written : (kind : Kind) (m : NodeMemory) (blocks given : List ℕ) → WrittenList kind m m blocks given 0
none_written kind m blocks given = record { same = same_memory m; inside = λ i w b h. absurd (omega arith); outside = λ at even h. refl }

pub more_written : (kind : Kind) (m now next : NodeMemory) (blocks given : List ℕ) (i w b : ℕ) → WrittenList kind m now blocks given i →
    slice_get given i ≡ Some w → slice_get blocks (i / 128) ≡ Some b → IsOnce blocks → w < 2 ^ 32 → SameMemory now next →
    WritesAt kind now next (block_word_at b (i % 128)) w → WrittenList kind m next blocks given (i + 1)
more_written kind m now next blocks given i w b before is block once few same bytes = record {
  same = same_memory_on m now next before.same same;
  inside = λ j v c h e f. ⊎_elim
      (λ (here : j ≡ i).
      let v_is : v ≡ w = cc in
      let c_is : c ≡ b = cc in
      ap (λ k. word_at kind next (block_word_at c (k % 128))) here ∙ ap (λ k. word_at kind next (block_word_at k (i % 128))) c_is
      ∙ written_here kind now next (block_word_at b (i % 128)) w bytes few ∙ ap Some (sym v_is))
      (λ (ne : j ≢ i).
      written_other kind now next (block_word_at b (i % 128)) w bytes (block_word_at c (j % 128)) (block_word_even c (j % 128))
      (block_word_even b (i % 128)) (λ q.
      let both = same_block_word c b (j % 128) (i % 128) (omega arith) (omega arith) q in
      let blocks_same = once (j / 128) (i / 128) b (f ∙ ap Some both.0) block in
      let words_same = both.1 in
      ne (omega arith))
      ∙ before.inside j v c (omega arith) e f)
      (same_or_not j i);
  outside = λ at even ne. written_other kind now next (block_word_at b (i % 128)) w bytes at even (block_word_even b (i % 128))
      (ne i b (omega arith) block)
      ∙ before.outside at even (λ j c h f. ne j c (omega arith) f);
}

-- ---- blocks are given one by one

pub gives_none : (m : NodeMemory) → IsWhole (held m) → GivesList m m []
gives_none m whole = record {
  kind = refl;
  whole = whole;
  these = λ b h. inr h;
  many = omega arith;
  sized = refl;
  bytes = refl;
  globals = refl;
}

module _ (old m : NodeMemory) (blocks : List ℕ) (b : ℕ) (t : GivesList old m blocks) (apart : Has blocks b → ⊥)
    (taken : Has (held old).free b → ⊥) (within : b < length (held old).links) where
  pub still_within : b < length (held m).links
  still_within = (let s = t.sized in omega arith)

  pub still_taken : Has (held m).free b → ⊥
  still_taken h = ⊎_elim (λ (x : Has blocks b). apart x) (λ (x : Has (held old).free b). taken x) (t.these b h)

  pub gives_more : (new : NodeMemory) → GivesOne m new b → GivesList old new (blocks ++ b ∷ [])
  gives_more new g = record {
    kind = g.kind ∙ t.kind;
    whole = g.whole;
    these = λ c h. ⊎_elim
        (λ (is : c ≡ b). inl (subst (λ x. Has (blocks ++ b ∷ []) x) (sym is) (has_back blocks (b ∷ []) b (record { at = 0; is = refl }))))
        (λ (x : Has (held m).free c). ⊎_elim
        (λ (y : Has blocks c). inl (has_front blocks (b ∷ []) c y))
        (λ (y : Has (held old).free c). inr y)
        (t.these c x))
        (first_or b (held m).free c (subst (λ (l : List ℕ). Has l c) g.free h));
    many = (let n = ap (λ (l : List ℕ). length l) g.free in let k = t.many in let a = length_more blocks b in omega arith);
    sized = g.sized ∙ t.sized;
    bytes = g.blocks ∙ t.bytes;
    globals = g.globals ∙ t.globals;
  }

-- what holds anyway holds where a call has failed
pub on_err : {T E P : Type 0} (r : Result T E) → P → OnErr r P
on_err (Ok x) p = tt
on_err (Err e) p = p
