-- What calls leave of a store, one after another: words of one owner that are written, and tables that have grown.
use Rattle.std.proofs.Common.{◌≡◌, ◌≢◌, ℕ, ◌*◌, ◌/◌, ◌%◌, ◌<◌, inl, List, length, Option, Some, None, refl, sym, ap, ◌∙◌, arith, ⊎_elim}
use Rattle.std.specs.Prelude.{slice_get}
use Rattle.std.proofs.lemmas.Option.{same_Some}
use Rattle.ec_base.proofs.Lists.{get_within}
use Rattle.ec_world.specs.declared.key.Key.{Key}
use Rattle.ec_objects.proofs.Creating.{kept_on, only_kept}
use Rattle.ec_objects.proofs.Wording.{grown_on}
use Rattle.ec_stores.proofs.Putting.{rest_grown}
use Rattle.ec_stores.specs.Changes.{OnlyTables, SameRest, WritesWord}
use Rattle.ec_things.specs.Store.{Grown, KeptRow, Owned, Store, word_in, word_of}
use Rattle.ec_things.specs.Texts.{GetsTexts, InPool}
use Rattle.ec_things.specs.Things.{Puts, Thing, row_size}

-- Words of one owner have been written, but for those that are kept; references and texts may have come, and nothing else has changed.
pub record Rewritten (s s' : Store) (key : Key) (Kept : ℕ → Type 0) : Type 0 where
  pub grown : Grown s s'
  pub rows : (other : Key) → s'.row other ≡ s.row other
  pub others : (other : Key) → other ≢ key → KeptRow s s' other
  pub its : (r : Owned) (j : ℕ) → s.row key ≡ Some r → j < 128 * length r.blocks → Kept j → word_of s' r.blocks j ≡ word_of s r.blocks j
  pub free : s'.free ≡ s.free
  pub count : s'.count ≡ s.count

same_word : (s s' : Store) → ((b i : ℕ) → s'.word b i ≡ s.word b i) → (blocks : List ℕ) (j : ℕ) → word_of s' blocks j ≡ word_of s blocks j
same_word s s' words blocks j = by (slice_get blocks (j / 128))
  where
    by : (c : Option ℕ) → word_in s' c (j % 128) ≡ word_in s c (j % 128)
    by None = refl
    by (Some c) = words c (j % 128)

pub only_rewritten : (s s' : Store) (key : Key) → OnlyTables s s' → Rewritten s s' key (λ j. Unit {0})
only_rewritten s s' key only = record {
  grown = only.grown;
  rows = only.rows;
  others = λ other ne. only_kept s s' other only;
  its = λ r j e l k. same_word s s' only.words r.blocks j;
  free = only.free;
  count = only.count;
}

pub word_rewritten : (s s' : Store) (key : Key) (i w : ℕ) → WritesWord s s' key i w → Rewritten s s' key (λ j. j ≢ i)
word_rewritten s s' key i w writes = record {
  grown = rest_grown s s' writes.rest;
  rows = writes.rows;
  others = writes.others;
  its = λ r j e l k. writes.its r j e l k;
  free = writes.free;
  count = writes.rest.count;
}

pub rewritten_on : (a b c : Store) (key : Key) (First Second : ℕ → Type 0) → Rewritten a b key First → Rewritten b c key Second →
    Rewritten a c key (λ j. First j × Second j)
rewritten_on a b c key First Second g h = record {
  grown = grown_on a b c g.grown h.grown;
  rows = λ other. h.rows other ∙ g.rows other;
  others = λ other ne. kept_on a b c other (g.others other ne) (h.others other ne);
  its = λ r j e l k. h.its r j (g.rows key ∙ e) l k.1 ∙ g.its r j e l k.0;
  free = h.free ∙ g.free;
  count = h.count ∙ g.count;
}

-- fewer words are known to be kept
pub rewritten_but : (s s' : Store) (key : Key) (Kept Fewer : ℕ → Type 0) → ((j : ℕ) → Fewer j → Kept j) → Rewritten s s' key Kept →
    Rewritten s s' key Fewer
rewritten_but s s' key Kept Fewer less re = record {
  grown = re.grown;
  rows = re.rows;
  others = re.others;
  its = λ r j e l k. re.its r j e l (less j k);
  free = re.free;
  count = re.count;
}

-- a word that was written is there
pub word_there : (s s' : Store) (key : Key) (i w : ℕ) (row : Owned) → WritesWord s s' key i w → s.row key ≡ Some row →
    word_of s' row.blocks i ≡ Some w
word_there s s' key i w row writes there =
    let same : writes.here.row ≡ row = same_Some writes.here.row row (sym writes.here.there ∙ writes.rows key ∙ there) in
    ap (λ (r : Owned). word_of s' r.blocks i) (sym same) ∙ writes.here.is

-- a word that is there is one of the owner's blocks
pub word_within : (s : Store) (blocks : List ℕ) (at w : ℕ) → word_of s blocks at ≡ Some w → at < 128 * length blocks
word_within s blocks at w e = by (slice_get blocks (at / 128)) refl e
  where
    by : (b : Option ℕ) → slice_get blocks (at / 128) ≡ b → word_in s b (at % 128) ≡ Some w → at < 128 * length blocks
    by None f g = absurd cc
    by (Some b) f g = let l = get_within blocks (at / 128) b f in omega (arith, l)

-- ---- tables that have grown, and then an owner that has come

pub puts_after : (s m s' : Store) (key : Key) (t : Thing) → OnlyTables s m → Puts m s' key (Some t) → Puts s s' key (Some t)
puts_after s m s' key t only puts = record {
  here = puts.here;
  others = λ other ne. kept_on s m s' other (only_kept s m other only) (puts.others other ne);
  grown = grown_on s m s' only.grown puts.grown;
  tidy = λ before. puts.tidy only.tidy;
  free =
      let f = puts.free in
      let g = only.free in
      let r : row_size (m.row key) ≡ row_size (s.row key) = ap row_size (only.rows key) in
      omega (arith, f, g, r);
  count = puts.count ∙ only.count;
}

-- ---- no text has come

pub rest_self : (s : Store) → SameRest s s
rest_self s = record {
  kind = refl;
  global = λ i. refl;
  local = λ i. refl;
  text = λ i. refl;
  room = refl;
  text_room = refl;
  text_free = refl;
  count = refl;
}

pub none_got : (s s' : Store) (Added : List ℕ → Type 0) → ((text : List ℕ) → Added text → ⊥) → SameRest s s' → GetsTexts Added s s'
none_got s s' Added none rest = record {
  kind = rest.kind;
  room = rest.room;
  text_room = rest.text_room;
  count = rest.count;
  texts = λ text. (
    λ h. inl (h.0, sym (rest.text h.0) ∙ h.1),
    λ h. ⊎_elim (λ (x : InPool s text). (x.0, rest.text x.0 ∙ x.1)) (λ (x : Added text). absurd (none text x)) h,
  );
  stay = λ i text e. rest.text i ∙ e;
}
