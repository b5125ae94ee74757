-- A field of an object that is shown gets another value.
use Rattle.std.proofs.Common.{◌≡◌, ◌≢◌, ℕ, ◌*◌, ◌/◌, ◌%◌, ◌<◌, List, length, Option, Some, None, refl, sym, ap, ◌∙◌, subst, arith, ⊎_elim}
use Rattle.std.specs.Prelude.{slice_get, slice_set}
use Rattle.std.proofs.lemmas.Option.{same_Some}
use Rattle.ec_base.proofs.Lists.{get_set_other, get_set_same, get_within, length_set}
use Rattle.ec_world.specs.Things.{class_blocks}
use Rattle.ec_world.specs.declared.key.Key.{Key}
use Rattle.ec_world.specs.declared.key.Key.TheVariants.{Object}
use Rattle.ec_objects.proofs.Creating.{kept_on, only_kept}
use Rattle.ec_objects.proofs.Gets.{gets_on, gets_word}
use Rattle.ec_objects.proofs.Wording.{grown_on}
use Rattle.ec_objects.specs.Values.{HasWord}
use Rattle.ec_stores.proofs.Putting.{rest_grown}
use Rattle.ec_stores.specs.Changes.{SameRest, WritesWord}
use Rattle.ec_things.proofs.Kept.{carries_of, stands_kept}
use Rattle.ec_things.proofs.Put.{same_or_not}
use Rattle.ec_things.specs.Store.{Grown, Owned, StandsAt, Store, Tidy, word_in, word_of}
use Rattle.ec_things.specs.Texts.{GetsTexts}
use Rattle.ec_things.specs.Things.{Puts, Shown, object_thing, row_size}
use Rattle.ec_world.specs.Outcomes.{with_element}
use Rattle.ec_world.specs.declared.object.ObjectRec.{ObjectRec}
use Rattle.ec_world.specs.declared.value.Value.{Value}
use Rattle.ec_world.specs.declared.value.Value.TheVariants.{Str}

-- a word that is there is one of the owner's blocks
within : (s : Store) (blocks : List ℕ) (at w : ℕ) → word_of s blocks at ≡ Some w → at < 128 * length blocks
within s blocks at w e = by (slice_get blocks (at / 128)) refl e
  where
    by : (b : Option ℕ) → slice_get blocks (at / 128) ≡ b → word_in s b (at % 128) ≡ Some w → at < 128 * length blocks
    by None f g = absurd cc
    by (Some b) f g = let l = get_within blocks (at / 128) b f in omega (arith, l)

tidy_same : (s s' : Store) → ((key : Key) → s'.row key ≡ s.row key) → SameRest s s' → Tidy s → Tidy s'
tidy_same s s' rows rest t = record {
  apart = λ a b r q x e f. t.apart a b r q x (sym (rows a) ∙ e) (sym (rows b) ∙ f);
  nil = rest.local 0 ∙ t.nil;
  locals = λ i j oid e f. t.locals i j oid (sym (rest.local i) ∙ e) (sym (rest.local j) ∙ f);
  texts = λ i j u e f. t.texts i j u (sym (rest.text i) ∙ e) (sym (rest.text j) ∙ f);
  filled = record {
    texts = t.filled.texts;
    once = t.filled.once;
    these = λ text. (
      λ h. let x = (t.filled.these text).0 h in (x.0, rest.text x.0 ∙ x.1),
      λ h. (t.filled.these text).1 (h.0, sym (rest.text h.0) ∙ h.1),
    );
    bytes = (let b = t.filled.bytes in let r = rest.text_room in let f = rest.text_free in omega (arith, b, r, f));
  };
}

module _ (s m s' : Store) (oid field w : ℕ) (v : Value) (has : HasWord s m v w) (writes : WritesWord m s' (Object oid) field w) where
  abbrev key : Key
  key = Object oid

  grown : Grown s s'
  grown = grown_on s m s' has.only.grown (rest_grown m s' writes.rest)

  row_is : s'.row key ≡ s.row key
  row_is = writes.rows key ∙ has.only.rows key

  module _ (o : ObjectRec) (shown : Shown s key (object_thing oid o)) (inside : field < length o.fields) where
    row_now : s'.row key ≡ Some shown.row
    row_now = row_is ∙ shown.there

    same_word : (b i : ℕ) → word_of m shown.row.blocks i ≡ word_of s shown.row.blocks i
    same_word b i = by (slice_get shown.row.blocks (i / 128))
      where
        by : (c : Option ℕ) → word_in m c (i % 128) ≡ word_in s c (i % 128)
        by None = refl
        by (Some c) = has.only.words c (i % 128)

    long : length (slice_set o.fields field v) ≡ length o.fields
    long = length_set o.fields field v

    new_value : StandsAt s' shown.row.blocks field v
    new_value =
        let row : writes.here.row ≡ shown.row = same_Some writes.here.row shown.row (sym writes.here.there ∙ row_now) in
        record {
          word = w;
          there = ap (λ (r : Owned). word_of s' r.blocks field) (sym row) ∙ writes.here.is;
          stands = stands_kept m s' (carries_of m s' (rest_grown m s' writes.rest)) v w has.stands;
        }

    old_value : (i : ℕ) (u : Value) → i ≢ field → slice_get o.fields i ≡ Some u → StandsAt s' shown.row.blocks i u
    old_value i u ne e =
        let x = shown.spells.values i u e in
        let at : x.0 ≡ i = sym (same_Some i x.0 x.1) in
        let st : StandsAt s shown.row.blocks i u = subst (λ n. StandsAt s shown.row.blocks n u) at x.2 in
        let inside_blocks = within s shown.row.blocks i st.word st.there in
        record {
          word = st.word;
          there =
              writes.its shown.row i (has.only.rows key ∙ shown.there) inside_blocks ne ∙ same_word 0 i ∙ st.there;
          stands = stands_kept s s' (carries_of s s' grown) u st.word st.stands;
        }

    each_value : (i : ℕ) (u : Value) → slice_get (slice_set o.fields field v) i ≡ Some u → StandsAt s' shown.row.blocks i u
    each_value i u e = ⊎_elim
        (λ (same : i ≡ field).
        let set : slice_get (slice_set o.fields field v) i ≡ Some v = rw same (get_set_same o.fields field v inside) in
        let is : v ≡ u = same_Some v u (sym set ∙ e) in
        subst (λ n. StandsAt s' shown.row.blocks n u) (sym same) (subst (λ (x : Value). StandsAt s' shown.row.blocks field x) is new_value))
        (λ (ne : i ≢ field). old_value i u ne (sym (get_set_other o.fields field i v ne) ∙ e))
        (same_or_not i field)

    counted : length shown.row.blocks ≡ class_blocks o.class (length (slice_set o.fields field v))
    counted = shown.spells.counted ∙ ap (class_blocks o.class) (sym long)

    pub field_put : Puts s s' key (Some (object_thing oid (with_element field v o)))
    field_put = record {
      here = record {
        row = shown.row;
        there = row_now;
        spells = record {
          home = shown.spells.home;
          counted = counted;
          size = shown.spells.size ∙ sym long;
          class = shown.spells.class;
          fixed = shown.spells.fixed;
          monitor = shown.spells.monitor;
          heads = λ i n e. cc;
          values = λ i u e. (i, refl, each_value i u e);
        };
      };
      others = λ other ne. kept_on s m s' other (only_kept s m other has.only) (writes.others other ne);
      grown = grown;
      tidy = λ before. tidy_same m s' writes.rows writes.rest has.only.tidy;
      free =
          let f = writes.free in
          let g = has.only.free in
          let r : row_size (s.row key) ≡ length shown.row.blocks = ap row_size shown.there in
          omega (arith, f, g, r, counted);
      count = writes.rest.count ∙ has.only.count;
    }

  pub field_texts : GetsTexts (λ text. v ≡ Str text) s s'
  field_texts = gets_on s m s' (λ text. v ≡ Str text) (gets_word s m v w has) writes.rest
