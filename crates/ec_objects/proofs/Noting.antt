-- A text is noted or not.
use Rattle.std.proofs.Common.{◌≡◌, ◌≢◌, ◌⊎◌, ℕ, zero, suc, ◌+◌, ◌-◌, ◌≤◌, List, [], ◌∷◌, ◌++◌, length, Some, refl, sym, ap, ◌∙◌, subst}
use Rattle.std.proofs.Common.{arith}
use Rattle.std.proofs.Common.{inl, inr, ⊎_elim}
use Rattle.std.specs.Prelude.{slice_get, take, ◌↔◌}
use Rattle.ec_base.proofs.Lists.{take_next}
use Rattle.ec_objects.specs.Texts.{Noted, Notes}
use Rattle.ec_world.specs.Held.{Distinct}
use Rattle.ec_world.specs.Words.{text_bytes}
use Rattle.ec_objects.proofs.Wording.{has_end, has_last, has_more, take_all}
use Rattle.ec_stores.proofs.Naming.{bytes_end, texts_once}
use Rattle.ec_stores.specs.Tables.{TextPool}
use Rattle.ec_things.specs.Store.{Store}
use Rattle.ec_things.specs.Texts.{InPool, NewBytes}
use Rattle.ec_world.specs.Group.{Has}
use Rattle.ec_world.specs.declared.value.Value.{Value}
use Rattle.ec_world.specs.declared.value.Value.TheVariants.{Str}

-- nothing new
pub notes_none : (s : Store) (seen : TextPool) (v : Value) → ((text : List ℕ) → v ≡ Str text → InPool s text ⊎ Has seen.texts text) →
    Notes s seen seen v
notes_none s seen v there = record {
  these = λ text. (
    λ h. inl h,
    λ h. ⊎_elim
        (λ (old : Has seen.texts text). old)
        (λ (new : (v ≡ Str text) × (InPool s text → ⊥)). ⊎_elim
        (λ (x : InPool s text). absurd (new.1 x))
        (λ (x : Has seen.texts text). x)
        (there text new.0))
        h,
  );
  once = λ h. h;
  bytes = refl;
}

-- a text more
pub notes_one : (s : Store) (seen new : TextPool) (t : List ℕ) → (InPool s t → ⊥) → ((i : ℕ) → slice_get seen.texts i ≢ Some t) →
    length t ≤ seen.free → new ≡ record { texts = seen.texts ++ t ∷ []; room = seen.room; free = seen.free - length t } →
    Notes s seen new (Str t)
notes_one s seen new t absent none room is = record {
  these = λ text. (
    λ h. ⊎_elim
        (λ (old : Has seen.texts text). inl old)
        (λ (same : text ≡ t). inr (ap Str (sym same), λ p. absent (subst (λ (x : List ℕ). InPool s x) same p)))
        (has_end seen.texts t text (subst (λ (l : List (List ℕ)). Has l text) texts h)),
    λ h. subst (λ (l : List (List ℕ)). Has l text) (sym texts) (⊎_elim
        (λ (old : Has seen.texts text). has_more seen.texts t text old)
        (λ (same : (Str t ≡ Str text) × (InPool s text → ⊥)).
        let e = same.0 in
        let is_text : t ≡ text = cc in
        subst (λ (x : List ℕ). Has (seen.texts ++ t ∷ []) x) is_text (has_last seen.texts t))
        h),
  );
  once = λ h. record {
    once = subst (λ (l : List (List ℕ)). (i j : ℕ) (x : List ℕ) → slice_get l i ≡ Some x → slice_get l j ≡ Some x → i ≡ j) (sym texts)
        (texts_once seen.texts t none h.once);
  };
  bytes = (let b = ap text_bytes texts in let e = bytes_end seen.texts t in let f = ap (λ (p : TextPool). p.free) is in
      omega (arith, b, e, f, room));
}
  where
    texts : new.texts ≡ seen.texts ++ t ∷ []
    texts = ap (λ (p : TextPool). p.texts) is

-- ---- one value after another

pub nothing_noted : (s : Store) (values : List Value) (room : ℕ) (seen : TextPool) →
    seen ≡ record { texts = []; room = room; free = room } →
    Noted s values 0 room seen
nothing_noted s values room seen is = record {
  these = λ text. (
    λ h. absurd (no_text text (subst (λ (l : List (List ℕ)). Has l text) none h)),
    λ h. absurd (no_value (Str text) h.0),
  );
  once = record { once = λ i j x e f. absurd (no_text x (subst (λ (l : List (List ℕ)). Has l x) none (record { at = i; is = e }))) };
  bytes = (let b = ap text_bytes none in let f = ap (λ (p : TextPool). p.free) is in omega (arith, b, f));
}
  where
    none : seen.texts ≡ []
    none = ap (λ (p : TextPool). p.texts) is

    no_text : (text : List ℕ) → Has [] text → ⊥
    no_text text h = let e = h.is in cc

    no_value : (v : Value) → Has [] v → ⊥
    no_value v h = let e = h.is in cc

pub one_noted : (s : Store) (values : List Value) (n room : ℕ) (seen new : TextPool) (v : Value) → Noted s values n room seen →
    slice_get values n ≡ Some v → Notes s seen new v → Noted s values (n + 1) room new
one_noted s values n room seen new v so e notes = record {
  these = λ text. (
    λ h. ⊎_elim
        (λ (old : Has seen.texts text). let x = (so.these text).0 old in
        (subst (λ (l : List Value). Has l (Str text)) (sym is) (has_more (take n values) v (Str text) x.0), x.1))
        (λ (new : (v ≡ Str text) × (InPool s text → ⊥)). (
          subst (λ (l : List Value). Has l (Str text)) (sym is)
              (subst (λ (u : Value). Has (take n values ++ v ∷ []) u) new.0 (has_last (take n values) v)),
          new.1,
        ))
        ((notes.these text).0 h),
    λ h. (notes.these text).1 (⊎_elim
        (λ (old : Has (take n values) (Str text)). inl ((so.these text).1 (old, h.1)))
        (λ (new : Str text ≡ v). inr (sym new, h.1))
        (has_end (take n values) v (Str text) (subst (λ (l : List Value). Has l (Str text)) is h.0))),
  );
  once = notes.once so.once;
  bytes = notes.bytes ∙ so.bytes;
}
  where
    is : take (n + 1) values ≡ take n values ++ v ∷ []
    is = take_next values n v e

pub all_noted : (s : Store) (values : List Value) (n room bytes : ℕ) (seen : TextPool) → Noted s values n room seen → length values ≤ n →
    bytes ≡ room - seen.free → NewBytes (λ text. Has values (Str text)) s bytes
all_noted s values n room bytes seen so all is = record {
  texts = seen.texts;
  once = so.once;
  these = λ text. subst (λ (l : List Value). Has seen.texts text ↔ (Has l (Str text) × (InPool s text → ⊥))) (take_all values n all)
      (so.these text);
  bytes = (let b = so.bytes in omega (arith, is, b));
}
