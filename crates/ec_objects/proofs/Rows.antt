-- What is kept of an object beside its words changes: whether it is fixed, and its monitor.
use Rattle.std.proofs.Common.{◌≡◌, ◌≢◌, ℕ, ◌/◌, ◌%◌, List, Option, Some, None, refl, sym, ap, ◌∙◌, subst, arith, inl, ⊎_elim, ◌⊎◌}
use Rattle.std.specs.Prelude.{Bool, length, slice_get}
use Rattle.std.proofs.lemmas.Option.{same_Some}
use Rattle.ec_monitors.specs.declared.record.MonitorRec.{MonitorRec}
use Rattle.ec_world.specs.declared.key.Key.{Key}
use Rattle.ec_world.specs.declared.key.Key.TheVariants.{Object}
use Rattle.ec_stores.proofs.Putting.{rest_grown}
use Rattle.ec_objects.specs.Acts.{ActsOn}
use Rattle.ec_stores.specs.Changes.{Acts, SameRest, SetsRow, with_fixed, with_monitor}
use Rattle.ec_things.proofs.Kept.{carries_of, stands_kept}
use Rattle.ec_things.specs.Store.{Owned, StandsAt, Store, Tidy, word_in, word_of}
use Rattle.ec_things.specs.Texts.{GetsTexts, InPool, NoTexts}
use Rattle.ec_things.specs.Things.{Puts, Shown, Spells, object_thing, row_size}
use Rattle.ec_world.specs.declared.object.ObjectRec.{ObjectRec}
use Rattle.ec_world.specs.declared.value.Value.{Value}

pub no_texts_got : (s s' : Store) → SameRest s s' → GetsTexts NoTexts s s'
no_texts_got s s' rest = record {
  kind = rest.kind;
  room = rest.room;
  text_room = rest.text_room;
  count = rest.count;
  texts = λ text. (
    λ h. inl (h.0, sym (rest.text h.0) ∙ h.1),
    λ h. ⊎_elim (λ (x : InPool s text). (x.0, rest.text x.0 ∙ x.1)) (λ (x : ⊥). absurd x) h,
  );
  stay = λ i text e. rest.text i ∙ e;
}

module _ (s s' : Store) (oid : ℕ) (now : Owned → Owned) (sets : SetsRow s s' (Object oid) now) (tidy : Tidy s')
    (o o' : ObjectRec) (shown : Shown s (Object oid) (object_thing oid o)) where
  same_word : (blocks : List ℕ) (i : ℕ) → word_of s' blocks i ≡ word_of s blocks i
  same_word blocks i = by (slice_get blocks (i / 128))
    where
      by : (c : Option ℕ) → word_in s' c (i % 128) ≡ word_in s c (i % 128)
      by None = refl
      by (Some c) = sets.words c (i % 128)

  module _ (home : (now shown.row).home ≡ shown.row.home) (blocks : (now shown.row).blocks ≡ shown.row.blocks) (size : (now shown.row).size ≡ shown.row.size)
      (class : (now shown.row).class ≡ shown.row.class) (fixed : (now shown.row).fixed ≡ o'.fixed)
      (monitor : (now shown.row).monitor ≡ o'.monitor) (fields : o'.fields ≡ o.fields) (same : o'.class ≡ o.class) where
    each : (i : ℕ) (v : Value) → slice_get o.fields i ≡ Some v → (at : ℕ) × (Some i ≡ Some at) × StandsAt s' (now shown.row).blocks at v
    each i v e =
        let x = shown.spells.values i v e in (
          x.0,
          x.1,
          record {
            word = x.2.word;
            there = ap (λ (bs : List ℕ). word_of s' bs x.0) blocks ∙ same_word shown.row.blocks x.0 ∙ x.2.there;
            stands = stands_kept s s' (carries_of s s' (rest_grown s s' sets.rest)) v x.2.word x.2.stands;
          },
        )

    spells : Spells s' (now shown.row) (object_thing oid o')
    spells = record {
      home = home ∙ shown.spells.home;
      counted = ap (λ (bs : List ℕ). length bs) blocks ∙ shown.spells.counted ∙ counted_same;
      size = size ∙ shown.spells.size ∙ ap (λ (fs : List Value). length fs) (sym fields);
      class = class ∙ shown.spells.class ∙ ap Some (sym same);
      fixed = fixed;
      monitor = monitor;
      heads = λ i n e. cc;
      values = λ i v e. each i v (ap (λ (fs : List Value). slice_get fs i) (sym fields) ∙ e);
    }
      where
        counted_same : (object_thing oid o).blocks ≡ (object_thing oid o').blocks
        counted_same = rw (fields, same) refl

    pub row_put : Puts s s' (Object oid) (Some (object_thing oid o'))
    row_put = record {
      here = record { row = now shown.row; there = sets.row shown.row shown.there; spells = spells };
      others = λ other ne. record { row = sets.others other ne; words = λ r b i e h l. sets.words b i };
      grown = rest_grown s s' sets.rest;
      tidy = λ before. tidy;
      free =
          let f = sets.free in
          let r : row_size (s.row (Object oid)) ≡ length shown.row.blocks = ap row_size shown.there in
          let c = spells.counted in
          let b = ap (λ (bs : List ℕ). length bs) blocks in
          omega (arith, f, r, c, b);
      count = sets.rest.count;
    }

pub flag_put : (s s' : Store) (oid : ℕ) (fixed : Bool) → SetsRow s s' (Object oid) (with_fixed fixed) → Tidy s' → (o : ObjectRec) →
    Shown s (Object oid) (object_thing oid o) → Puts s s' (Object oid) (Some (object_thing oid (record o { fixed = fixed })))
flag_put s s' oid fixed sets tidy o shown = row_put s s' oid (with_fixed fixed) sets tidy o (record o { fixed = fixed }) shown
    refl refl refl refl refl shown.spells.monitor refl refl

pub monitor_put : (s s' : Store) (oid : ℕ) (m : Option MonitorRec) → SetsRow s s' (Object oid) (with_monitor m) → Tidy s' →
    (o : ObjectRec) → Shown s (Object oid) (object_thing oid o) →
    Puts s s' (Object oid) (Some (object_thing oid (record o { monitor = m })))
monitor_put s s' oid m sets tidy o shown = row_put s s' oid (with_monitor m) sets tidy o (record o { monitor = m }) shown
    refl refl refl refl shown.spells.fixed refl refl refl

-- an act on the monitor of an object
pub acts_on : {A : Type 0} (s s' : Store) (oid : ℕ) (act : MonitorRec → MonitorRec × A) (answer : A) →
    Acts s s' oid act answer → Tidy s' → ActsOn s s' oid act answer
acts_on {A = A} s s' oid act answer a tidy o shown =
    let row : a.had.row ≡ shown.row = same_Some a.had.row shown.row (sym a.had.there ∙ shown.there) in
    record {
      before = a.before;
      had = sym shown.spells.monitor ∙ ap (λ (r : Owned). r.monitor) (sym row) ∙ a.had.is;
      answers = ap (λ (x : MonitorRec × A). x.1) a.does;
      puts = subst (λ (m : MonitorRec). Puts s s' (Object oid) (Some (object_thing oid (record o { monitor = Some m }))))
          (sym (ap (λ (x : MonitorRec × A). x.0) a.does)) (monitor_put s s' oid (Some a.after) a.sets tidy o shown);
    }
